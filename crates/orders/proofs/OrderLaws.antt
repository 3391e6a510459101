-- Orders by places are exactly the lists whose entries can be taken one after the other with none left: an order's first entry may be
-- taken and the rest is an order of what is left then, and the other way. And where there is an order its places give the entries times, so
-- that document 01's order takes them all.
use Prim.Native.Nat.{ℕ, zero, suc, ◌+◌, ◌-◌, ◌≤◌, ◌<◌}
use mathlib.Core.Path.{◌≡◌, refl, sym, ap, ◌∙◌, subst}
use mathlib.Core.Bool.{false}
use mathlib.Core.Logic.{◌⊎◌, inl, inr, ⊎_elim, by_cases}
use mathlib.Core.List.{List, [], ◌∷◌}
use native.Mathlib.Decide.{dec_lt}
use native.Mathlib.Omega.{arith}
use lib.ListN.{length}
use lib.Dec.{ltb}
use borrow.Author.Tests.{ltb-true}
use Rattle.sizes.specs.Sizes.{thread_count}
use Rattle.answer.proofs.BelowLaws.{some_below-found}
use Rattle.ring.specs.Ring.{slot_count}
use Rattle.image.specs.Stored.{StoredLog, stored_log}
use Rattle.undoing.specs.Undo.{Undo, left_of, take_last, take_many}
use Rattle.recovery.specs.Recover.{has_left}
use Rattle.orders.specs.Orders.{Name, name_at, kind_in, place_in, value_in, IsLeft, IsOrderOf}
use Rattle.orders.proofs.Timed.{Handed, Timed, Partway}
use Rattle.orders.proofs.UndoSteps.{last_of, thread_below, fails, Takeable, may_take-takeable, takeable-may_take, Taken, take_last-taken}
use Rattle.orders.proofs.UndoSteps.{taken-within, left-or-last}
use Rattle.orders.proofs.UndoEnds.{total_of, total_bounded, may-less, none_left, all-taken}
use Rattle.orders.proofs.Takes.{name_of, Takes}

pub same_name : (a b : Name) → a.thread ≡ b.thread → a.lsn ≡ b.lsn → a ≡ b
same_name a b is_thread is_lsn i = record { thread = is_thread i; lsn = is_lsn i }

is-left : (logs : List StoredLog) (left : List ℕ) (thread index : ℕ) → index < left_of left thread →
    IsLeft logs left (name_of logs thread index)
is-left logs left thread index below = record { index = index; below = below; is_lsn = refl }

-- an order names a RELEASE after an ACQUIRE that it waits for
waits-for : {logs : List StoredLog} {left : List ℕ} {giver given taker taken : ℕ} (order : List Name) → IsOrderOf logs left order →
    Handed logs left giver given taker taken → (i j : ℕ) → i < length order → j < length order →
    name_at order i ≡ name_of logs giver given → name_at order j ≡ name_of logs taker taken → j < i
waits-for order is_order pair i j i_inside j_inside is_release is_acquire =
    is_order.release_after i j i_inside j_inside
    (rw is_release pair.release.is_kind)
    (rw is_acquire pair.acquire.is_kind)
    (rw (is_release, is_acquire) (pair.release.is_place ∙ sym pair.acquire.is_place))
    (rw (is_release, is_acquire, pair.release.is_value, pair.acquire.is_value) pair.larger)

module _ (logs : List StoredLog) (left : List ℕ) (order : List Name) (is_order : IsOrderOf logs left order) where
  -- how many entries the list names from this one on, so that what stands first is the latest; 0 where there is no such entry
  time_of : (thread index : ℕ) → Dec (index < left_of left thread) → ℕ
  time_of thread index (yes below) = length order - (is_order.all (name_of logs thread index) (is-left logs left thread index below)).0
  time_of thread index (no over) = 0

  -- an entry's place in the list, and the time that it has by that
  record Stands (thread index time : ℕ) : Type 0 where
    place : ℕ
    inside : place < length order
    is_named : name_at order place ≡ name_of logs thread index
    is_time : time ≡ length order - place

  stands_by : (thread index : ℕ) (is_below : Dec (index < left_of left thread)) → index < left_of left thread →
      Stands thread index (time_of thread index is_below)
  unfolding time_of
  stands_by thread index (yes below) is_left =
      let found = is_order.all (name_of logs thread index) (is-left logs left thread index below) in
      record { place = found.0; inside = found.1; is_named = found.2; is_time = refl }
  stands_by thread index (no over) is_left = absurd (over is_left)

  -- each entry that is left has a place and a time
  abbrev time : ℕ → ℕ → ℕ
  time thread index = time_of thread index (dec_lt index (left_of left thread))

  abbrev stands : (thread index : ℕ) → index < left_of left thread → Stands thread index (time thread index)
  stands thread index = stands_by thread index (dec_lt index (left_of left thread))

  module _ (threads : length left ≡ thread_count) (few : (thread : ℕ) → thread < thread_count → left_of left thread ≤ slot_count) where
    -- an order's places give the entries times
    order-timed : Timed logs left
    order-timed = record {
      threads = threads;
      few = few;
      time = time;
      older_first = λ thread first second less below.
          let one = stands thread first (omega arith) in
          let two = stands thread second below in
          let before =
          is_order.last_first one.place two.place one.inside two.inside
          (rw (one.is_named, two.is_named) refl) (rw (one.is_named, two.is_named) (omega arith)) in
          omega (arith, one.inside, one.is_time, two.inside, two.is_time, before);
      handed_first = λ giver given taker taken pair.
          let one = stands giver given pair.release.is_left in
          let two = stands taker taken pair.acquire.is_left in
          let before =
          waits-for order is_order pair one.place two.place one.inside two.inside one.is_named two.is_named in
          omega (arith, one.inside, one.is_time, two.inside, two.is_time, before);
    }

    -- where there is an order, document 01's order takes all entries
    pub order-taken : (cells : List ℕ) → has_left (take_many 256 logs (record { left = left; cells = cells })) ≡ false
    order-taken = all-taken logs left order-timed

module _ (logs : List StoredLog) (left : List ℕ) (entry : Name) (order : List Name) (is_order : IsOrderOf logs left (entry ∷ order)) where
  -- the last entry that the thread of the first one has left
  abbrev last : Name
  last = name_of logs entry.thread (last_of left entry.thread)

  -- the first entry is one that is left
  first-left : IsLeft logs left entry
  first-left = is_order.only 0 (omega arith)

  -- its LSN is the thread's last one: a larger one would stand before it
  first-last : first-left.index ≡ last_of left entry.thread
  first-last =
      by_cases
      (dec_lt first-left.index (last_of left entry.thread))
      (λ less.
      let found = is_order.all last (is-left logs left entry.thread (last_of left entry.thread) (omega (arith, first-left.below))) in
      let before =
      is_order.last_first 0 found.0 (omega arith) found.1 (rw found.2 refl) (rw (found.2, first-left.is_lsn) (omega arith)) in
      absurd (omega arith))
      (λ not_less. omega (arith, first-left.below))

  -- an order's first entry is its thread's last one
  first-is : entry ≡ last
  first-is =
      same_name entry last refl (first-left.is_lsn ∙ ap (λ (index : ℕ). (stored_log logs entry.thread).head + index) first-last)

-- a law on any two places of a list holds with an entry put before the list, where that one need not stand after itself or another
before-all : (R : Name → Name → Type 0) (entry : Name) (order : List Name) → (R entry entry → ⊥) →
    ((j : ℕ) → j < length order → R entry (name_at order j) → ⊥) →
    ((i j : ℕ) → i < length order → j < length order → R (name_at order i) (name_at order j) → j < i) →
    (i j : ℕ) → i < suc (length order) → j < suc (length order) → R (name_at (entry ∷ order) i) (name_at (entry ∷ order) j) → j < i
before-all R entry order not_self not_first rest zero zero i_inside j_inside must = absurd (not_self must)
before-all R entry order not_self not_first rest zero (suc j) i_inside j_inside must = absurd (not_first j (omega arith) must)
before-all R entry order not_self not_first rest (suc i) zero i_inside j_inside must = omega arith
before-all R entry order not_self not_first rest (suc i) (suc j) i_inside j_inside must =
    omega (arith, rest i j (omega arith) (omega arith) must)

-- a thread's last entry is taken, and stands first in a list
module _ (logs : List StoredLog) (undo : Undo) (thread : ℕ) (after : Undo) (take : Taken logs undo thread after)
    (has_entry : 0 < left_of undo.left thread) (order : List Name) where
  abbrev taken : Name
  taken = name_of logs thread (last_of undo.left thread)

  -- what is left then was left before
  was-left : {other : Name} → IsLeft logs after.left other → IsLeft logs undo.left other
  was-left {other} is_left = record {
    index = is_left.index;
    below = omega (arith, is_left.below, taken-within logs undo thread after take other.thread);
    is_lsn = is_left.is_lsn;
  }

  -- and what was left before is left, or is the one taken
  left-or-taken : {other : Name} → IsLeft logs undo.left other → IsLeft logs after.left other ⊎ (taken ≡ other)
  left-or-taken {other} is_left =
      ⊎_elim
      (λ still. inl (record { index = is_left.index; below = still; is_lsn = is_left.is_lsn }))
      (λ gone. inr (same_name taken other (sym gone.0) (sym (is_left.is_lsn ∙ rw (gone.0, gone.1) refl))))
      (left-or-last logs undo thread after take other.thread is_left.index is_left.below)

  -- an entry of the thread that is left is older than the one taken
  older : {other : Name} → IsLeft logs after.left other → thread ≡ other.thread → other.lsn < taken.lsn
  older {other} is_left same =
      let less : is_left.index < left_of after.left thread = rw same is_left.below in
      let same_head : (stored_log logs thread).head ≡ (stored_log logs other.thread).head = ap (λ (t : ℕ). (stored_log logs t).head) same in
      omega (arith, is_left.is_lsn, take.fewer)

  -- so the one taken is not left
  gone : {other : Name} → IsLeft logs after.left other → taken ≡ other → ⊥
  gone {other} is_left same =
      let less = older is_left (ap (λ (e : Name). e.thread) same) in
      let equal : taken.lsn ≡ other.lsn = ap (λ (e : Name). e.lsn) same in
      omega arith

  -- of an order of what is left it may be taken, and the rest is an order of what is left then
  module _ (is_order : IsOrderOf logs undo.left (taken ∷ order)) where
    first-takeable : Takeable logs undo.left thread
    first-takeable = record {
      has_entry = has_entry;
      free = λ taker index pair.
          let found = is_order.all (name_of logs taker index) (is-left logs undo.left taker index pair.acquire.is_left) in
          let before = waits-for (taken ∷ order) is_order pair 0 found.0 (omega arith) found.1 refl found.2 in
          omega arith;
    }

    -- an entry that is left then is named after the first
    later-place : {other : Name} → IsLeft logs after.left other → (i : ℕ) → i < suc (length order) → name_at (taken ∷ order) i ≡ other →
        (j : ℕ) × (j < length order) × (name_at order j ≡ other)
    later-place is_left zero inside same = absurd (gone is_left same)
    later-place is_left (suc i) inside same = (i, omega arith, same)

    rest-order : IsOrderOf logs after.left order
    rest-order = record {
      only = λ i inside.
          ⊎_elim
          (λ is_left. is_left)
          (λ same. absurd (omega (arith, is_order.once 0 (suc i) (omega arith) (omega arith) same)))
          (left-or-taken (is_order.only (suc i) (omega arith)));
      all = λ other is_left. let found = is_order.all other (was-left is_left) in later-place is_left found.0 found.1 found.2;
      once = λ i j i_inside j_inside same. omega (arith, is_order.once (suc i) (suc j) (omega arith) (omega arith) same);
      last_first = λ i j i_inside j_inside same_thread less.
          omega (arith, is_order.last_first (suc i) (suc j) (omega arith) (omega arith) same_thread less);
      release_after = λ i j i_inside j_inside is_release is_acquire same_lock smaller.
          omega (arith, is_order.release_after (suc i) (suc j) (omega arith) (omega arith) is_release is_acquire same_lock smaller);
    }

  -- and put before an order of what is left then it makes an order of what is left
  module _ (takeable : Takeable logs undo.left thread) (rest : IsOrderOf logs after.left order) where
    only_then : (i : ℕ) → i < suc (length order) → IsLeft logs undo.left (name_at (taken ∷ order) i)
    only_then zero inside = is-left logs undo.left thread (last_of undo.left thread) (omega arith)
    only_then (suc i) inside = was-left (rest.only i (omega arith))

    once-then : (i j : ℕ) → i < suc (length order) → j < suc (length order) → name_at (taken ∷ order) i ≡ name_at (taken ∷ order) j → i ≡ j
    once-then zero zero i_inside j_inside same = refl
    once-then zero (suc j) i_inside j_inside same = absurd (gone (rest.only j (omega arith)) same)
    once-then (suc i) zero i_inside j_inside same = absurd (gone (rest.only i (omega arith)) (sym same))
    once-then (suc i) (suc j) i_inside j_inside same = ap suc (rest.once i j (omega arith) (omega arith) same)

    -- a RELEASE that may be taken waits for no ACQUIRE that is left
    waits-for-none : {other : Name} → IsLeft logs after.left other → kind_in logs taken ≡ 3 → kind_in logs other ≡ 2 →
        place_in logs taken ≡ place_in logs other → value_in logs taken < value_in logs other → ⊥
    unfolding was-left
    waits-for-none {other} is_left is_release is_acquire same_lock smaller =
        takeable.free other.thread is_left.index (record {
          lock = place_in logs taken;
          count = value_in logs taken;
          later = value_in logs other;
          release = record { is_left = omega arith; is_kind = is_release; is_place = refl; is_value = refl };
          acquire = record {
            is_left = (was-left is_left).below;
            is_kind = rw (← is_left.is_lsn) is_acquire;
            is_place = rw (← is_left.is_lsn) (sym same_lock);
            is_value = rw (← is_left.is_lsn) refl;
          };
          larger = smaller;
        })

    cons-order : IsOrderOf logs undo.left (taken ∷ order)
    cons-order = record {
      only = only_then;
      all = λ other is_left.
          ⊎_elim
          (λ still. let found = rest.all other still in (suc found.0, omega (arith, found.1), found.2))
          (λ same. (0, omega arith, same))
          (left-or-taken is_left);
      once = once-then;
      last_first = λ i j i_inside j_inside same_thread less.
          before-all
          (λ a b. (a.thread ≡ b.thread) × (a.lsn < b.lsn))
          taken
          order
          (λ self. omega (arith, self.1))
          (λ j inside must. omega (arith, must.1, older (rest.only j inside) must.0))
          (λ i j i_inside j_inside must. rest.last_first i j i_inside j_inside must.0 must.1)
          i j i_inside j_inside (same_thread, less);
      release_after = λ i j i_inside j_inside is_release is_acquire same_lock smaller.
          before-all
          (λ a b. (kind_in logs a ≡ 3) × (kind_in logs b ≡ 2) × (place_in logs a ≡ place_in logs b) × (value_in logs a < value_in logs b))
          taken
          order
          (λ self. omega (arith, self.3))
          (λ j inside must. waits-for-none (rest.only j inside) must.0 must.1 must.2 must.3)
          (λ i j i_inside j_inside must. rest.release_after i j i_inside j_inside must.0 must.1 must.2 must.3)
          i j i_inside j_inside (is_release, is_acquire, same_lock, smaller);
    }

-- where nothing is left, and only there, the list that names no entry is an order
nothing-order : (logs : List StoredLog) (undo : Undo) → length undo.left ≡ thread_count → has_left undo ≡ false →
    IsOrderOf logs undo.left []
nothing-order logs undo threads nothing =
    let none : (entry : Name) → IsLeft logs undo.left entry → ⊥ = λ entry is_left.
    let in_range = thread_below undo.left entry.thread is_left.index threads is_left.below in
    omega (arith, is_left.below, none_left undo nothing entry.thread in_range) in
    record {
      only = λ i inside. absurd (omega arith);
      all = λ entry is_left. absurd (none entry is_left);
      once = λ i j i_inside j_inside same. absurd (omega arith);
      last_first = λ i j i_inside j_inside same_thread less. absurd (omega arith);
      release_after = λ i j i_inside j_inside is_release is_acquire same_lock smaller. absurd (omega arith);
    }

order-nothing : (logs : List StoredLog) (undo : Undo) → IsOrderOf logs undo.left [] → has_left undo ≡ false
unfolding has_left
order-nothing logs undo is_order =
    fails (has_left undo) (λ is_left.
    let found = some_below-found thread_count (λ thread. ltb 0 (left_of undo.left thread)) is_left in
    let some_left = ltb-true 0 (left_of undo.left found.number) found.holds in
    let named = is_order.all (name_of logs found.number 0) (is-left logs undo.left found.number 0 (omega (arith, some_left))) in
    omega (arith, named.1))

-- the entries of an order can be taken one after the other, and none is left
pub order-takes : (logs : List StoredLog) (order : List Name) (undo : Undo) → length undo.left ≡ thread_count →
    IsOrderOf logs undo.left order → (end : Undo) × Takes logs undo order end × (has_left end ≡ false)
order-takes logs [] undo threads is_order = (undo, Takes.ended, order-nothing logs undo is_order)
order-takes logs (entry ∷ order) undo threads is_order =
    let thread = entry.thread in
    let is_last = first-is logs undo.left entry order is_order in
    let named = subst (λ (e : Name). IsOrderOf logs undo.left (e ∷ order)) is_last is_order in
    let has : 0 < left_of undo.left thread = omega (arith, (is_order.only 0 (omega arith)).below) in
    let after = take_last logs undo thread in
    let take = take_last-taken logs undo thread threads has in
    let may = takeable-may_take logs undo.left threads thread (first-takeable logs undo thread after take has order named) in
    let later = order-takes logs order after take.threads (rest-order logs undo thread after take has order named) in (
      later.0,
      subst
          (λ (e : Name). Takes logs undo (e ∷ order) later.0)
          (sym is_last)
          (Takes.taking thread (thread_below undo.left thread 0 threads has) may later.1),
      later.2,
    )

-- entries that can be taken one after the other, with none left, are named in an order
pub takes-order : {logs : List StoredLog} {undo end : Undo} {order : List Name} → Takes logs undo order end →
    length undo.left ≡ thread_count → has_left end ≡ false → IsOrderOf logs undo.left order
takes-order {logs} {undo} Takes.ended threads nothing = nothing-order logs undo threads nothing
takes-order {logs} {undo} (Takes.taking {order = order} thread in_range may rest) threads nothing =
    let takeable = may_take-takeable logs undo.left threads thread may in
    let after = take_last logs undo thread in
    let take = take_last-taken logs undo thread threads takeable.has_entry in
    cons-order logs undo thread after take takeable.has_entry order takeable (takes-order rest take.threads nothing)

-- each take leaves fewer entries in all, so no more are named than were left
takes-few : {logs : List StoredLog} {undo end : Undo} {order : List Name} → Takes logs undo order end →
    length undo.left ≡ thread_count → length order ≤ total_of undo.left thread_count
takes-few Takes.ended threads = omega arith
takes-few {logs} {undo} (Takes.taking thread in_range may rest) threads =
    let takeable = may_take-takeable logs undo.left threads thread may in
    let take = take_last-taken logs undo thread threads takeable.has_entry in
    let partway : Partway undo.left undo = record { threads = threads; within = λ other. omega arith } in
    omega (arith, takes-few rest take.threads, may-less logs undo.left undo partway thread may)

-- four threads have at most 64 entries each, so an order names at most 256
pub order-few : (logs : List StoredLog) (left : List ℕ) (order : List Name) → length left ≡ thread_count →
    ((thread : ℕ) → thread < thread_count → left_of left thread ≤ slot_count) → IsOrderOf logs left order → length order ≤ 256
order-few logs left order threads few is_order =
    let taken = order-takes logs order (record { left = left; cells = [] }) threads is_order in
    omega (arith, takes-few taken.1 threads, total_bounded left slot_count thread_count few)
