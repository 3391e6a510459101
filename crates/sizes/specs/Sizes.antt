-- How many threads and locks there are, and how many words an entry has.
use Rattle.std.specs.Prelude.{ℕ}

-- "4 threads (0 to 3)"
abbrev pub thread_count : ℕ
thread_count = 4

-- "8 locks (0 to 7)"
abbrev pub lock_count : ℕ
lock_count = 8

-- the words of an entry in an image: "kind, place, value, rank"
abbrev pub entry_words : ℕ
entry_words = 4

-- the words of an entry are what it says, and last the one that tells its LSN
abbrev pub lsn_word : ℕ
lsn_word = 3
