-- Steps and the entries that they made: an accepted ACQUIRE or LOGREL made the entry at which it stands, and no two steps one entry.
use Prim.Native.Nat.{ℕ, suc, ◌<◌}
use native.Mathlib.Decide.{dec_lt}
use native.Mathlib.Omega.{arith}
use mathlib.Core.Path.{◌≡◌, refl}
use mathlib.Core.Bool.{true}
use mathlib.Core.List.{List}
use mathlib.Core.Logic.{◌⊎◌, by_cases}
use lib.ListN.{length}
use borrow.Author.Tests.{eq-eqb}
use Rattle.event.specs.Events.{place_of}
use Rattle.atomicity.specs.History.{Fed, step_at}
use Rattle.atomicity.specs.HappensBefore.{Accepted}
use Rattle.atomicity.proofs.Logged.{Entries, Made}
use Rattle.atomicity.proofs.Ordered.{accepted-inside}
use Rattle.atomicity.proofs.Places.{PlacesHold, makes, made_by, made_grows}
use Rattle.atomicity.proofs.Times.{TimesHold, step_kind_of}

-- a later step of a thread that makes an entry stands at a later one
pub made-later : (entries : Entries) (history : List Fed) (thread first second : ℕ) → first < second →
    makes entries history thread second ≡ true →
    made_by entries history thread (suc first) < made_by entries history thread (suc second)
unfolding made_by
made-later entries history thread first second before is_made =
    let grown = made_grows entries history thread (suc first) second (omega arith) in
    rw is_made (omega arith)

-- a step of a thread that makes an entry stands at one that was made since the beginning
made_since : (entries : Entries) (history : List Fed) (thread place : ℕ) → makes entries history thread place ≡ true →
    entries.before thread < made_by entries history thread (suc place)
unfolding made_by
made_since entries history thread place is_made =
    let least = made_grows entries history thread 0 place (omega arith) in
    rw is_made (omega arith)

-- no two steps of a thread that make entries stand at one entry
made_once : (entries : Entries) (history : List Fed) (thread first second : ℕ) → makes entries history thread first ≡ true →
    makes entries history thread second ≡ true →
    made_by entries history thread (suc first) ≡ made_by entries history thread (suc second) → first ≡ second
made_once entries history thread first second is_first is_second same =
    by_cases
    (dec_lt first second)
    (λ before. let more = made-later entries history thread first second before is_second in absurd (omega arith))
    (λ not_before.
    by_cases
    (dec_lt second first)
    (λ after. let more = made-later entries history thread second first after is_first in absurd (omega arith))
    (λ not_after. omega (arith, not_before, not_after)))

-- the step of the thread at this place made the entry at which it stands
pub record Stands (history : List Fed) (entries : Entries) (thread place : ℕ) : Type 0 where
  pub made : Made entries thread (made_by entries history thread (suc place))
  pub is_time : entries.time thread (made_by entries history thread (suc place)) ≡ place
  pub is_kind : (step_at history place).kind ≡ step_kind_of (entries.event thread (made_by entries history thread (suc place)))
  pub is_place : (step_at history place).place ≡ place_of (entries.event thread (made_by entries history thread (suc place)))

module _ {history : List Fed} {entries : Entries} {counts : ℕ → ℕ} (places : PlacesHold history entries counts) where
  -- a step of a thread that made an entry makes one of it
  pub step-makes : {thread place : ℕ} → entries.made place ≡ true → (step_at history place).thread ≡ thread →
      makes entries history thread place ≡ true
  step-makes {thread} is_made is_thread = rw (is_made, is_thread, eq-eqb thread thread refl)

  pub stands : TimesHold history entries → {thread place kind : ℕ} → Accepted history place kind →
      (step_at history place).thread ≡ thread → (kind ≡ 4) ⊎ (kind ≡ 5) → Stands history entries thread place
  stands times {thread} {place} is is_thread is_making =
      let number = made_by entries history thread (suc place) in
      let is_made = step-makes (places.made_at is is_making) is_thread in
      let inside = accepted-inside history place is.is_accepted in
      let next = places.next_is thread (rw is_thread at (places.thread_is place is.is_accepted)) in
      let least = made_since entries history thread place is_made in
      let most = made_grows entries history thread (suc place) (length history) (omega arith) in
      let made : Made entries thread number = record { since = omega arith; below = omega arith } in
      let step = times.entry_step (record { made = made; says = refl }) in
      let maker = entries.time thread number in
      let is_last : made_by entries history thread (suc maker) ≡ number = rw step.is_thread at step.is_last in
      let same : maker ≡ place =
      made_once entries history thread maker place (step-makes step.is_made step.is_thread) is_made is_last in
      record {
        made = made;
        is_time = same;
        is_kind = rw same at step.is_kind;
        is_place = rw same at step.is_place;
      }
