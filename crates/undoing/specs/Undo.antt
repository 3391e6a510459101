-- The undo order: "repeatedly takes the last remaining entry of the lowest thread whose last one may be taken".
-- It is stated over the four logs of an image and how many present entries each has left.
use Rattle.std.specs.Prelude.{ℕ, zero, suc, ◌-◌, Bool, true, false, cond, not, ◌&&◌, List, get_or, set, take, eqb, ltb, Option, None, Some}
use Rattle.sizes.specs.Sizes.{thread_count}
use Rattle.answer.specs.Lists.{some_below}
use Rattle.reader.specs.Stretch.{heads_at}
use Rattle.image.specs.Stored.{StoredLog, stored_logs, stored_log, present_entries, entry_kind, entry_place, entry_value}

-- how many entries each thread has left to take, and the cells so far
pub record Undo : Type 0 where
  pub left : List ℕ
  pub cells : List ℕ

-- how many entries a thread has left
abbrev pub left_of : List ℕ → ℕ → ℕ
left_of left thread = get_or left thread 0

-- an ACQUIRE of the lock with a count larger than this remains in the thread's log
unfoldable pub has_later_acquire : StoredLog → ℕ → ℕ → ℕ → Bool
has_later_acquire log left lock count =
    some_below left (λ index. eqb (entry_kind log index) 2 && eqb (entry_place log index) lock && ltb count (entry_value log index))

-- "A RELEASE with count k may be taken when no ACQUIRE of that lock with a larger count remains in any log; the other kinds always."
unfoldable pub may_take_entry : List StoredLog → List ℕ → ℕ → ℕ → ℕ → Bool
may_take_entry logs left kind place value =
    let waits = some_below thread_count (λ thread. has_later_acquire (stored_log logs thread) (left_of left thread) place value) in
    cond (eqb kind 3) (not waits) true

-- the thread has an entry left, and its last one may be taken
unfoldable pub may_take : List StoredLog → List ℕ → ℕ → Bool
may_take logs left thread =
    let log = stored_log logs thread in
    let last = left_of left thread - 1 in
    let may = may_take_entry logs left (entry_kind log last) (entry_place log last) (entry_value log last) in
    cond (eqb (left_of left thread) 0) false may

-- the lowest of so many threads, from this one on, whose last entry may be taken
unfoldable pub lowest_from : List StoredLog → List ℕ → ℕ → ℕ → Option ℕ
lowest_from logs left thread zero = None
lowest_from logs left thread (suc count) =
    let later = lowest_from logs left (suc thread) count in
    cond (may_take logs left thread) (Some thread) later

-- "A STORE taken writes its value back."
unfoldable pub take_last : List StoredLog → Undo → ℕ → Undo
take_last logs undo thread =
    let log = stored_log logs thread in
    let last = left_of undo.left thread - 1 in
    record {
      left = set undo.left thread last;
      cells =
          cond (eqb (entry_kind log last) 1) (set undo.cells (entry_place log last) (entry_value log last)) undo.cells;
    }

abbrev pub take_from : List StoredLog → Undo → Option ℕ → Undo
take_from logs undo None = undo
take_from logs undo (Some thread) = take_last logs undo thread

-- one entry is taken, where one may be
unfoldable pub take_next : List StoredLog → Undo → Undo
take_next logs undo = take_from logs undo (lowest_from logs undo.left 0 thread_count)

-- so many entries are taken, one after the other
unfoldable pub take_many : ℕ → List StoredLog → Undo → Undo
take_many zero logs undo = undo
take_many (suc count) logs undo = take_many count logs (take_next logs undo)

-- "Recovery copies the kept cells", and every present entry is left
unfoldable pub undo_start : List ℕ → Undo
undo_start image = record {
  left = present_entries image;
  cells = take heads_at image;
}

-- the undo of an image: four threads have at most 64 present entries each
unfoldable pub undone : List ℕ → Undo
undone image = take_many 256 (stored_logs image) (undo_start image)
