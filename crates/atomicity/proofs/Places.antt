-- The places of a history and the entries that its steps made: a step stands at its thread's last entry after it, and what happens before
-- another step stands at an entry that leads to that step's.
use Prim.Native.Nat.{ℕ, zero, suc, ◌+◌, ◌≤◌, ◌<◌}
use native.Mathlib.Decide.{dec_lt, ℕ_discrete}
use native.Mathlib.Omega.{arith}
use mathlib.Core.Path.{◌≡◌, sym, ap, ◌∙◌, subst}
use mathlib.Core.Bool.{Bool, true, false, cond, ◌&&◌}
use mathlib.Core.List.{List, [], ◌∷◌}
use mathlib.Core.Logic.{◌⊎◌, inl, inr, ⊎_elim, by_cases}
use lib.ListN.{length, length-append, get_or-append, get_or-eq_default}
use lib.Seq.{get_or-append_seam}
use lib.Dec.{eqb}
use Rattle.sizes.specs.Sizes.{thread_count}
use Rattle.atomicity.specs.History.{Fed, no_step, step_at}
use Rattle.atomicity.specs.HappensBefore.{Accepted, HappensBefore, in_thread, by_lock, through}
use Rattle.undo.specs.Regions.{is_acquire, is_release}
use Rattle.event.specs.declared.Event.TheVariants.{Store}
use Rattle.atomicity.proofs.Logged.{Entries, Made, Is, IsReleaseOf, IsAcquireOf, Grows, still-is}
use Rattle.atomicity.proofs.Ordered.{and_then, accepted-inside}
use Rattle.atomicity.proofs.Leads as Order
use Rattle.atomicity.proofs.Leads.{Leads, leads_grow}

-- the step at a place is one of the thread that made an entry
abbrev pub makes : Entries → List Fed → ℕ → ℕ → Bool
makes entries history thread place = entries.made place && eqb (step_at history place).thread thread

-- the last LSN of the thread after the steps at the first so many places
unfoldable pub made_by : Entries → List Fed → ℕ → ℕ → ℕ
made_by entries history thread zero = entries.before thread
made_by entries history thread (suc count) = cond (makes entries history thread count) 1 0 + made_by entries history thread count

-- the last LSN of a step's thread after it
abbrev pub last_of : Entries → List Fed → ℕ → ℕ
last_of entries history place = made_by entries history (step_at history place).thread (suc place)

-- a thread's last LSN only grows
pub made_grows : (entries : Entries) (history : List Fed) (thread first second : ℕ) → first ≤ second →
    made_by entries history thread first ≤ made_by entries history thread second
unfolding made_by
made_grows entries history thread first zero before = let none : first ≡ 0 = omega arith in rw none (omega arith)
made_grows entries history thread first (suc second) before =
    by_cases
    (ℕ_discrete first (suc second))
    (λ same. rw same (omega arith))
    (λ differs.
    let less = made_grows entries history thread first second (omega (arith, differs)) in
    omega arith)

module _ (history : List Fed) (fed : Fed) where
  pub length-then : length (and_then history fed) ≡ suc (length history)
  length-then = simp length-append (omega arith)

  pub step-before : {place : ℕ} → place < length history → step_at (and_then history fed) place ≡ step_at history place
  step-before {place} before = get_or-append history (fed ∷ []) no_step place before

  pub step-new : step_at (and_then history fed) (length history) ≡ fed
  step-new = get_or-append_seam history fed [] no_step

  -- where entries grow by a step, a thread's last LSN after the older steps stays what it was
  module _ {old new : Entries} (grows : Grows old new (length history)) where
    pub made-was : (thread count : ℕ) → count ≤ length history →
        made_by new (and_then history fed) thread count ≡ made_by old history thread count
    unfolding made_by
    made-was thread zero within = ap (λ (given : ℕ → ℕ). given thread) grows.before_same
    made-was thread (suc count) within =
        rw (
          step-before {place = count} (omega arith),
          grows.made_same count (λ same. omega arith),
          made-was thread count (omega arith),
        )

    pub made-new : (thread : ℕ) →
        made_by new (and_then history fed) thread (suc (length history)) ≡
        cond (new.made (length history) && eqb fed.thread thread) 1 0 + made_by old history thread (length history)
    unfolding made_by
    made-new thread = rw (step-new, made-was thread (length history) (omega arith))

    pub last-was : {place : ℕ} → place < length history → last_of new (and_then history fed) place ≡ last_of old history place
    last-was {place} before =
        ap (λ (step : Fed). made_by new (and_then history fed) step.thread (suc place)) (step-before before) ∙
        made-was (step_at history place).thread (suc place) before

-- the thread's last LSN is this one, and the region in which it stands has an entry of the cell, made before it or the same
pub record LogStands (entries : Entries) (thread last cell : ℕ) : Type 0 where
  pub number : ℕ
  pub old : ℕ
  pub is_entry : Is entries thread number (Store cell old)
  pub is_last : Made entries thread last
  pub up_to : number ≤ last
  pub no_boundary : (later : ℕ) → number < later → later ≤ last →
      (is_acquire (entries.event thread later) ≡ false) × (is_release (entries.event thread later) ≡ false)

-- an entry of the cell that no boundary follows stays such a one as entries grow
pub log_stands_grow : {old new : Entries} {now thread last cell : ℕ} → Grows old new now → LogStands old thread last cell →
    LogStands new thread last cell
log_stands_grow {old} {new} {now} {thread} {last} grows stands = record {
  number = stands.number;
  old = stands.old;
  is_entry = still-is grows stands.is_entry;
  is_last = grows.still thread last stands.is_last;
  up_to = stands.up_to;
  no_boundary = λ later after within.
      let since = stands.is_entry.made.since in
      let below = stands.is_last.below in
      rw (grows.says_same thread later (record { since = omega arith; below = omega arith })) (stands.no_boundary later after within);
}

-- the history's steps and the entries
pub record PlacesHold (history : List Fed) (entries : Entries) (counts : ℕ → ℕ) : Type 0 where
  pub thread_is : (place : ℕ) → (step_at history place).accepted ≡ true → (step_at history place).thread < thread_count
  pub next_is : (thread : ℕ) → thread < thread_count → entries.next thread ≡ suc (made_by entries history thread (length history))
  -- no step to come made an entry; each ACQUIRE and each LOGREL step made one, and a LOG step stands at or after its cell's
  pub not_yet : (place : ℕ) → length history ≤ place → entries.made place ≡ false
  pub made_at : {place kind : ℕ} → Accepted history place kind → (kind ≡ 4) ⊎ (kind ≡ 5) → entries.made place ≡ true
  pub log_at : {place : ℕ} → Accepted history place 2 →
      LogStands entries (step_at history place).thread (last_of entries history place) (step_at history place).place
  -- a RELEASE step stands at its RELEASE entry, of a count that the lock has passed
  pub release_at : {place : ℕ} → Accepted history place 6 →
      (count : ℕ) ×
      IsReleaseOf entries (step_at history place).thread (last_of entries history place) (step_at history place).place count ×
      (count < counts (step_at history place).place)
  -- a RELEASE entry of a count that the lock has passed has its RELEASE step
  pub released_by : {thread number lock count : ℕ} → IsReleaseOf entries thread number lock count → count < counts lock
      → (place : ℕ) × Accepted history place 6 × ((step_at history place).thread ≡ thread) ×
      (last_of entries history place ≡ number)
  -- each RELEASE step leads to each later ACQUIRE step of the lock
  pub lock_leads : {first second : ℕ} → first < second → Accepted history first 6 → Accepted history second 4 →
      (step_at history first).place ≡ (step_at history second).place →
      Leads entries (step_at history first).thread (last_of entries history first)
      (step_at history second).thread (last_of entries history second)

-- what happens before leads
pub before-leads : {history : List Fed} {entries : Entries} {counts : ℕ → ℕ} {first second : ℕ} →
    PlacesHold history entries counts → HappensBefore history first second →
    Leads entries (step_at history first).thread (last_of entries history first)
    (step_at history second).thread (last_of entries history second)
before-leads {history} {entries} {counts} {first} {second} holds (in_thread before is_first is_second same) =
    subst
    (λ (thread : ℕ).
    Leads entries (step_at history first).thread (last_of entries history first) thread
    (made_by entries history thread (suc second)))
    same
    (Order.in_thread (made_grows entries history (step_at history first).thread (suc first) (suc second) (omega arith)))
before-leads holds (by_lock before is_first is_second same) = holds.lock_leads before is_first is_second same
before-leads holds (through first second) = Order.through (before-leads holds first) (before-leads holds second)

-- the step is the RELEASE step of this RELEASE entry
pub record TakesRelease (history : List Fed) (fed : Fed) (entries : Entries) (thread number : ℕ) : Type 0 where
  pub is_accepted : fed.accepted ≡ true
  pub is_kind : fed.kind ≡ 6
  pub is_thread : fed.thread ≡ thread
  pub is_last : made_by entries (and_then history fed) fed.thread (suc (length history)) ≡ number

-- what a step adds
pub record NewPlace (history : List Fed) (fed : Fed) (old new : Entries) (counts after : ℕ → ℕ) : Type 0 where
  pub grows : Grows old new (length history)
  pub thread : fed.accepted ≡ true → fed.thread < thread_count
  pub next_new : (thread : ℕ) → thread < thread_count →
      new.next thread ≡ cond (new.made (length history) && eqb fed.thread thread) 1 0 + old.next thread
  pub new_made : fed.accepted ≡ true → (fed.kind ≡ 4) ⊎ (fed.kind ≡ 5) → new.made (length history) ≡ true
  pub new_log : fed.accepted ≡ true → fed.kind ≡ 2 →
      LogStands new fed.thread (made_by new (and_then history fed) fed.thread (suc (length history))) fed.place
  pub count_grows : (lock : ℕ) → counts lock ≤ after lock
  pub new_release : fed.accepted ≡ true → fed.kind ≡ 6 →
      (count : ℕ) ×
      IsReleaseOf new fed.thread (made_by new (and_then history fed) fed.thread (suc (length history))) fed.place count ×
      (count < after fed.place)
  pub new_taken : {thread number lock count : ℕ} → IsReleaseOf new thread number lock count → count < after lock
      → (IsReleaseOf old thread number lock count × (count < counts lock)) ⊎ TakesRelease history fed new thread number
  pub new_acquire : fed.accepted ≡ true → fed.kind ≡ 4 →
      IsAcquireOf new fed.thread (made_by new (and_then history fed) fed.thread (suc (length history)))
      fed.place (counts fed.place)

module _ {history : List Fed} {fed : Fed} {old new : Entries} {counts after : ℕ → ℕ}
    (step : NewPlace history fed old new counts after) (holds : PlacesHold history old counts) where
  -- an accepted step stands in the history, or is the new one
  place-cases : (place : ℕ) → (step_at (and_then history fed) place).accepted ≡ true → (place < length history) ⊎ (place ≡ length history)
  place-cases place is_accepted =
      by_cases
      (dec_lt place (length history))
      (λ before. inl before)
      (λ not_before.
      by_cases
      (ℕ_discrete place (length history))
      (λ same. inr same)
      (λ differs.
      let beyond : length (and_then history fed) ≤ place = rw (length-then history fed) (omega (arith, not_before, differs)) in
      let refused_there : (step_at (and_then history fed) place).accepted ≡ false =
      ap (λ (step : Fed). step.accepted) (get_or-eq_default (and_then history fed) no_step beyond) in
      let never : ◌≡◌ {A = ℕ} 0 1 = cc in
      absurd (omega arith)))

  -- what an accepted step of a kind was, or the new one is
  accepted-before : {place kind : ℕ} → place < length history → Accepted (and_then history fed) place kind → Accepted history place kind
  accepted-before {place} before is_accepted = record {
    is_accepted = sym (ap (λ (step : Fed). step.accepted) (step-before history fed before)) ∙ is_accepted.is_accepted;
    is_kind = sym (ap (λ (step : Fed). step.kind) (step-before history fed before)) ∙ is_accepted.is_kind;
  }

  new-accepted : {place kind : ℕ} → place ≡ length history → Accepted (and_then history fed) place kind →
      (fed.accepted ≡ true) × (fed.kind ≡ kind)
  new-accepted {place} {kind} same is_accepted =
      let here : step_at (and_then history fed) place ≡ fed = ap (step_at (and_then history fed)) same ∙ step-new history fed in (
        sym (ap (λ (step : Fed). step.accepted) here) ∙ is_accepted.is_accepted,
        sym (ap (λ (step : Fed). step.kind) here) ∙ is_accepted.is_kind,
      )

  -- a RELEASE step of the history, read in the longer one
  release-before : {place : ℕ} (before : place < length history) → Accepted (and_then history fed) place 6 →
      (count : ℕ) ×
      IsReleaseOf new (step_at (and_then history fed) place).thread (last_of new (and_then history fed) place)
      (step_at (and_then history fed) place).place count ×
      (count < counts (step_at (and_then history fed) place).place)
  release-before {place} before is_accepted =
      let found = holds.release_at (accepted-before before is_accepted) in
      rw (last-was history fed step.grows before, step-before history fed before) (found.0, still-is step.grows found.1, found.2)

  pub places-step : PlacesHold (and_then history fed) new after
  places-step = record {
    thread_is = λ place is_accepted.
        ⊎_elim
        (λ before. rw (step-before history fed {place = place} before)
        (holds.thread_is place (sym (ap (λ (step : Fed). step.accepted) (step-before history fed before)) ∙ is_accepted)))
        (λ same.
        let here : step_at (and_then history fed) place ≡ fed = ap (step_at (and_then history fed)) same ∙ step-new history fed in
        rw here (step.thread (sym (ap (λ (step : Fed). step.accepted) here) ∙ is_accepted)))
        (place-cases place is_accepted);
    next_is = λ thread in_range.
        rw (length-then history fed, made-new history fed step.grows thread)
        (let was = holds.next_is thread in_range in
        let now = step.next_new thread in_range in
        omega arith);
    not_yet = λ place beyond.
        let longer = length-then history fed in
        step.grows.made_same place (λ same. omega arith) ∙ holds.not_yet place (omega arith);
    made_at = λ {place} is_accepted is_kind.
        ⊎_elim
        (λ before. step.grows.made_same place (λ same. omega arith) ∙ holds.made_at (accepted-before before is_accepted) is_kind)
        (λ same.
        let is_new = new-accepted same is_accepted in
        rw same (step.new_made is_new.0 (rw is_new.1 is_kind)))
        (place-cases place is_accepted.is_accepted);
    log_at = λ {place} is_accepted.
        ⊎_elim
        (λ before.
        rw (last-was history fed step.grows {place = place} before, step-before history fed before)
        (log_stands_grow step.grows (holds.log_at (accepted-before before is_accepted))))
        (λ same.
        let is_new = new-accepted same is_accepted in
        rw (same, step-new history fed) (step.new_log is_new.0 is_new.1))
        (place-cases place is_accepted.is_accepted);
    release_at = λ {place} is_accepted.
        ⊎_elim
        (λ before.
        let found = release-before before is_accepted in
        let grew = step.count_grows (step_at (and_then history fed) place).place in
        let less = found.2 in
        (found.0, found.1, omega arith))
        (λ same.
        let is_new = new-accepted same is_accepted in
        rw (same, step-new history fed) (step.new_release is_new.0 is_new.1))
        (place-cases place is_accepted.is_accepted);
    released_by = λ release taken.
        ⊎_elim
        (λ was.
        let found = holds.released_by was.0 was.1 in
        let inside = accepted-inside history found.0 found.1.is_accepted in
        let same = step-before history fed inside in (
          found.0,
          record { is_accepted = rw same found.1.is_accepted; is_kind = rw same found.1.is_kind },
          rw same found.2,
          last-was history fed step.grows inside ∙ found.3,
        ))
        (λ (takes : TakesRelease history fed new _ _).
        let same = step-new history fed in (
          length history,
          record { is_accepted = rw same takes.is_accepted; is_kind = rw same takes.is_kind },
          rw same takes.is_thread,
          rw same takes.is_last,
        ))
        (step.new_taken release taken);
    lock_leads = λ {first} {second} before is_release is_acquire same_place.
        ⊎_elim
        (λ (second_before : second < length history).
        let first_before : first < length history = omega arith in
        rw (
          last-was history fed step.grows first_before,
          last-was history fed step.grows second_before,
          step-before history fed first_before,
          step-before history fed second_before,
        )
        (leads_grow step.grows
        (holds.lock_leads
        before
        (accepted-before first_before is_release)
        (accepted-before second_before is_acquire)
        (rw (step-before history fed first_before, step-before history fed second_before) at same_place))))
        (λ (same : second ≡ length history).
        let is_new = new-accepted same is_acquire in
        let first_before : first < length history = omega arith in
        let found = release-before first_before is_release in
        let here : step_at (and_then history fed) second ≡ fed = ap (step_at (and_then history fed)) same ∙ step-new history fed in
        let acquire : IsAcquireOf new (step_at (and_then history fed) second).thread
        (last_of new (and_then history fed) second) (step_at (and_then history fed) second).place
        (counts (step_at (and_then history fed) second).place) =
        rw (same, step-new history fed) (step.new_acquire is_new.0 is_new.1) in
        let release : IsReleaseOf new (step_at (and_then history fed) first).thread
        (last_of new (and_then history fed) first) (step_at (and_then history fed) second).place found.0 =
        subst (λ (lock : ℕ).
        IsReleaseOf new (step_at (and_then history fed) first).thread (last_of new (and_then history fed) first) lock found.0)
        same_place found.1 in
        Order.by_lock release acquire (rw same_place at found.2))
        (place-cases second is_acquire.is_accepted);
  }
