-- Where present entries have times, one may be taken while any is left, so document 01's order takes them all.
use Prim.Native.Nat.{ℕ, zero, suc, ◌+◌, ◌*◌, ◌≤◌, ◌<◌}
use mathlib.Core.Path.{◌≡◌, refl, sym, ◌∙◌}
use mathlib.Core.Bool.{Bool, true, false, cond, true≢false}
use mathlib.Core.Logic.Dec
use mathlib.Core.Logic.{by_cases}
use mathlib.Core.List.{List}
use Rattle.std.specs.Prelude.{Option, None, Some}
use Rattle.std.proofs.lemmas.Option.{none-some}
use native.Mathlib.Decide.{ℕ_discrete, dec_lt}
use native.Mathlib.Omega.{arith}
use borrow.Author.Tests.{ltb-true, ltb-false}
use Rattle.sizes.specs.Sizes.{thread_count}
use Rattle.answer.proofs.BelowLaws.{some_below-found, some_below-none}
use Rattle.ring.specs.Ring.{slot_count}
use Rattle.image.specs.Stored.{StoredLog}
use Rattle.undoing.specs.Undo.{Undo, left_of, may_take, lowest_from, take_last, take_from, take_next, take_many}
use Rattle.undoing.proofs.UndoLaws.{lowest-may}
use Rattle.recovery.specs.Recover.{has_left}
use Rattle.orders.proofs.Timed.{Timed, Partway}
use Rattle.orders.proofs.UndoSteps.{last_of, thread_below, fails, handed_moved, Takeable, may_take-takeable, takeable-may_take}
use Rattle.orders.proofs.UndoSteps.{take_last-taken, taken-within, take-partway}

-- a thread that has entries left, and whose time none below the bound that has some exceeds
record Latest (left time : ℕ → ℕ) (bound : ℕ) : Type 0 where
  thread : ℕ
  has_entry : 0 < left thread
  latest : (other : ℕ) → other < bound → 0 < left other → time other ≤ time thread

-- with one thread more, a thread is the latest if it is not before the latest so far, nor before the new one
extend : (left time : ℕ → ℕ) (bound : ℕ) (earlier : Latest left time bound) (thread : ℕ) → 0 < left thread →
    time earlier.thread ≤ time thread → (0 < left bound → time bound ≤ time thread) → Latest left time (suc bound)
extend left time bound earlier thread has_entry not_earlier not_last = record {
  thread = thread;
  has_entry = has_entry;
  latest = λ other below other_has.
      by_cases
      (ℕ_discrete other bound)
      (λ same. rw same (not_last (rw same at other_has)))
      (λ differs. omega (arith, earlier.latest other (omega arith) other_has));
}

-- of threads of which one has entries left, one is the latest
find-latest : (left time : ℕ → ℕ) (first : ℕ) → 0 < left first → (bound : ℕ) → Latest left time bound
find-latest left time first has_entry zero =
    record { thread = first; has_entry = has_entry; latest = λ other below other_has. absurd (omega arith) }
find-latest left time first has_entry (suc bound) = compare-last (find-latest left time first has_entry bound)
  where
    compare-last : Latest left time bound → Latest left time (suc bound)
    compare-last earlier =
        by_cases
        (Dec.and (dec_lt 0 (left bound)) (dec_lt (time earlier.thread) (time bound)))
        (λ later. extend left time bound earlier bound later.0 (omega (arith, later.1)) (λ has. omega arith))
        (λ not_later.
        extend left time bound earlier earlier.thread earlier.has_entry (omega arith)
        (λ has. by_cases (dec_lt (time earlier.thread) (time bound)) (λ later. absurd (not_later (has, later)))
        (λ is_earlier. omega arith)))

-- where no lowest thread is found none may be taken
lowest-none : (logs : List StoredLog) (left : List ℕ) (thread count : ℕ) → lowest_from logs left thread count ≡ None →
    (other : ℕ) → thread ≤ other → other < thread + count → may_take logs left other ≡ false
unfolding lowest_from
lowest-none logs left thread zero none_found other over below = absurd (omega arith)
lowest-none logs left thread (suc count) none_found other over below =
    by_first (may_take logs left thread) refl none_found (λ rest. lowest-none logs left (suc thread) count rest other)
  where
    by_first : (first : Bool) → may_take logs left thread ≡ first →
        cond first (Some thread) (lowest_from logs left (suc thread) count) ≡ None →
        (lowest_from logs left (suc thread) count ≡ None → suc thread ≤ other → other < suc thread + count →
        may_take logs left other ≡ false) →
        may_take logs left other ≡ false
    by_first true may is_first later = absurd (none-some thread (sym is_first))
    by_first false may_not is_later later =
        by_cases
        (ℕ_discrete other thread)
        (λ same. rw same may_not)
        (λ differs. later is_later (omega arith) (omega arith))

-- the lowest thread of all whose last entry may be taken
pub record Lowest (logs : List StoredLog) (left : List ℕ) : Type 0 where
  pub thread : ℕ
  pub is_lowest : lowest_from logs left 0 thread_count ≡ Some thread
  pub in_range : thread < thread_count
  pub may : may_take logs left thread ≡ true

module _ (logs : List StoredLog) (present : List ℕ) (timed : Timed logs present) (undo : Undo) (partway : Partway present undo) where
  not-later : (thread first second : ℕ) → first ≤ second → second < left_of present thread →
      timed.time thread first ≤ timed.time thread second
  not-later thread first second order is_present =
      by_cases
      (ℕ_discrete first second)
      (λ same. rw same (omega arith))
      (λ differs. omega (arith, timed.older_first thread first second (omega arith) is_present))

  -- the last entry of the latest time may be taken: an ACQUIRE that a RELEASE waits for would be later
  latest-takeable : (latest : Latest (left_of undo.left) (λ thread. timed.time thread (last_of undo.left thread)) thread_count) →
      Takeable logs undo.left latest.thread
  latest-takeable latest = record {
    has_entry = latest.has_entry;
    free = λ taker taken pair.
        let in_range = thread_below undo.left taker taken partway.threads pair.acquire.is_left in
        let not_later = latest.latest taker in_range (omega (arith, pair.acquire.is_left)) in
        let pair_present =
        handed_moved {second = present} pair (omega (arith, partway.within latest.thread)) (omega (arith, partway.within taker)) in
        let is_later = timed.handed_first latest.thread (last_of undo.left latest.thread) taker taken pair_present in
        let not_over = not-later taker taken (last_of undo.left taker) (omega arith) (omega (arith, partway.within taker)) in
        omega arith;
  }

  -- while entries are left one may be taken
  pub progress : has_left undo ≡ true → Lowest logs undo.left
  unfolding has_left
  progress is_left =
      let first = some_below-found thread_count _ is_left in
      let latest =
      find-latest (left_of undo.left) (λ thread. timed.time thread (last_of undo.left thread)) first.number
      (ltb-true 0 _ first.holds) thread_count in
      by-lowest
      (lowest_from logs undo.left 0 thread_count)
      refl
      latest.thread
      (thread_below undo.left latest.thread 0 partway.threads latest.has_entry)
      (takeable-may_take logs undo.left partway.threads latest.thread (latest-takeable latest))
    where
      by-lowest : (found : Option ℕ) → lowest_from logs undo.left 0 thread_count ≡ found → (latest : ℕ) →
          latest < thread_count → may_take logs undo.left latest ≡ true → Lowest logs undo.left
      by-lowest None none_found latest in_range may =
          absurd (true≢false (sym may ∙ lowest-none logs undo.left 0 thread_count none_found latest (omega arith) (omega arith)))
      by-lowest (Some thread) is_found latest in_range may =
          let found = lowest-may logs undo.left 0 thread_count thread is_found in
          record { thread = thread; is_lowest = is_found; in_range = omega (arith, found.0); may = found.1 }

-- how many entries the threads below the bound have left
pub total_of : List ℕ → ℕ → ℕ
total_of left zero = 0
total_of left (suc bound) = left_of left bound + total_of left bound

pub total_bounded : (left : List ℕ) (most : ℕ) (bound : ℕ) → ((thread : ℕ) → thread < bound → left_of left thread ≤ most) →
    total_of left bound ≤ bound * most
unfolding total_of
total_bounded left most zero bounded = omega arith
total_bounded left most (suc bound) bounded =
    omega (arith, bounded bound (omega arith), total_bounded left most bound (λ thread below. bounded thread (omega arith)))

module _ (fewer more : List ℕ) (within : (thread : ℕ) → left_of fewer thread ≤ left_of more thread) where
  total-within : (bound : ℕ) → total_of fewer bound ≤ total_of more bound
  unfolding total_of
  total-within zero = omega arith
  total-within (suc bound) = omega (arith, within bound, total-within bound)

  -- where a thread has fewer entries left, and none has more, there are fewer in all
  total-less : (thread : ℕ) → left_of fewer thread < left_of more thread → (bound : ℕ) → thread < bound →
      total_of fewer bound < total_of more bound
  unfolding total_of
  total-less thread less zero below = absurd (omega arith)
  total-less thread less (suc bound) below =
      by_cases
      (ℕ_discrete thread bound)
      (λ same. omega (arith, total-within bound, rw same at less))
      (λ differs. omega (arith, within bound, total-less thread less bound (omega arith)))

-- an undo with no entries left has none in any thread
pub none_left : (undo : Undo) → has_left undo ≡ false → (thread : ℕ) → thread < thread_count → left_of undo.left thread ≤ 0
unfolding has_left
none_left undo ends thread in_range = ltb-false 0 _ (some_below-none thread_count _ ends thread in_range)

module _ (logs : List StoredLog) (present : List ℕ) where
  -- a lawful take leaves no more entries than are present, and fewer in all
  may-partway : (undo : Undo) → Partway present undo → (thread : ℕ) → may_take logs undo.left thread ≡ true →
      Partway present (take_last logs undo thread)
  may-partway undo partway thread may =
      let takeable = may_take-takeable logs undo.left partway.threads thread may in
      take-partway
      logs
      undo
      thread
      (take_last logs undo thread)
      (take_last-taken logs undo thread partway.threads takeable.has_entry)
      present
      partway

  pub may-less : (undo : Undo) → Partway present undo → (thread : ℕ) → may_take logs undo.left thread ≡ true →
      total_of (take_last logs undo thread).left thread_count < total_of undo.left thread_count
  may-less undo partway thread may =
      let takeable = may_take-takeable logs undo.left partway.threads thread may in
      let take = take_last-taken logs undo thread partway.threads takeable.has_entry in
      total-less
      (take_last logs undo thread).left
      undo.left
      (taken-within logs undo thread (take_last logs undo thread) take)
      thread
      (omega (arith, take.fewer, takeable.has_entry))
      thread_count
      (thread_below undo.left thread 0 partway.threads takeable.has_entry)

  module _ (timed : Timed logs present) where
    -- as many takes as entries are left, in document 01's order, take them all
    many-ends : (count : ℕ) (undo : Undo) → Partway present undo → total_of undo.left thread_count ≤ count →
        has_left (take_many count logs undo) ≡ false
    unfolding take_many take_next
    many-ends zero undo partway enough =
        fails (has_left undo) (λ is_left.
        let lowest = progress logs present timed undo partway is_left in
        omega (arith, may-less undo partway lowest.thread lowest.may))
    many-ends (suc count) undo partway enough =
        by-lowest (lowest_from logs undo.left 0 thread_count) refl (many-ends count)
      where
        by-lowest : (found : Option ℕ) → lowest_from logs undo.left 0 thread_count ≡ found →
            ((after : Undo) → Partway present after → total_of after.left thread_count ≤ count →
            has_left (take_many count logs after) ≡ false) →
            has_left (take_many count logs (take_from logs undo found)) ≡ false
        by-lowest None none_found later =
            let ends = fails (has_left undo) (λ is_left.
            let lowest = progress logs present timed undo partway is_left in
            none-some lowest.thread (sym none_found ∙ lowest.is_lowest)) in
            later undo partway (omega (arith, total_bounded undo.left 0 thread_count (none_left undo ends)))
        by-lowest (Some thread) is_found later =
            let may = (lowest-may logs undo.left 0 thread_count thread is_found).1 in
            later
            (take_last logs undo thread)
            (may-partway undo partway thread may)
            (omega (arith, may-less undo partway thread may))

    -- four threads have at most 64 present entries each, so 256 takes take all of them
    pub all-taken : (cells : List ℕ) → has_left (take_many 256 logs (record { left = present; cells = cells })) ≡ false
    all-taken cells =
        many-ends
        256
        (record { left = present; cells = cells })
        (record { threads = timed.threads; within = λ thread. omega arith })
        (total_bounded present slot_count thread_count timed.few)
