-- LSNs (document 01: ranks) and slots. Knows nothing of what an entry says.
use Rattle.std.specs.Prelude.{ℕ, ◌+◌, ◌%◌}
use Rattle.ring.specs.declared.Lsn.{Lsn}

-- "a log of 64 slots"
abbrev pub slot_count : ℕ
slot_count = 64

-- "a rank (1 to 1,000,000 per thread, in order of making)"
abbrev pub last_lsn : ℕ
last_lsn = 1000000

-- the LSN of a number
abbrev pub lsn : ℕ → Lsn
lsn number = record { 0 = number }

-- "It sits in slot rank mod 64."
abbrev pub slot_of : ℕ → ℕ
slot_of number = number % slot_count

-- document 02: "for each slot 0 to 63 the slot of the rank after, so 0 after 63"
abbrev pub next_slot_of : ℕ → ℕ
next_slot_of slot = slot_of (slot + 1)
