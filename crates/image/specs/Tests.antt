-- The tests of an image alone, in order: 21 for its length, 22 and 23.
use Rattle.std.specs.Prelude.{ℕ, ◌+◌, Bool, true, cond, not, ◌||◌, List, [], ◌∷◌, length, eqb, ltb}
use Rattle.sizes.specs.Sizes.{thread_count, lock_count}
use Rattle.answer.specs.Lists.{some_below}
use Rattle.answer.specs.Refusals.{Test, ◌⇒◌}
use Rattle.answer.specs.declared.Refusal.TheVariants.{WrongLength, BadHead, BadEntry}
use Rattle.ring.specs.Ring.{last_lsn}
use Rattle.reader.specs.Stretch.{image_words}
use Rattle.image.specs.Stored.{StoredLog, stored_logs, stored_log, present_in, entry_kind, entry_place, entry_value}

-- "22: a head outside 1 to 1,000,001"
unfoldable pub is_bad_head : StoredLog → Bool
is_bad_head log = eqb log.head 0 || ltb (last_lsn + 1) log.head

-- the largest lock count that an image may have
abbrev pub last_sync_count : ℕ
last_sync_count = 4000000

-- "a bad kind or place, or a lock count over 4,000,000"
unfoldable pub is_bad_entry : ℕ → ℕ → ℕ → Bool
is_bad_entry kind place value =
    cond (eqb kind 1) (not (ltb place 128))
    (cond (eqb kind 2 || eqb kind 3) (not (ltb place lock_count) || ltb last_sync_count value) true)

-- "23: a present entry with a bad kind or place, or a lock count over 4,000,000"
unfoldable pub has_bad_entry : StoredLog → Bool
has_bad_entry log =
    some_below (present_in log) (λ index. is_bad_entry (entry_kind log index) (entry_place log index) (entry_value log index))

-- the tests of an image alone: 21 for its length, 22 and 23
unfoldable pub image_tests : List ℕ → List Test
image_tests image =
    (not (eqb (length image) image_words) ⇒ WrongLength) ∷
    (some_below thread_count (λ thread. is_bad_head (stored_log (stored_logs image) thread)) ⇒ BadHead) ∷
    (some_below thread_count (λ thread. has_bad_entry (stored_log (stored_logs image) thread)) ⇒ BadEntry) ∷ []
