-- The oldest region of a log, read on the entries that the thread ever made: how far it goes, and where it ends.
use Prim.Native.Nat.{ℕ, zero, suc, ◌+◌, ◌-◌, ◌<◌, ◌≤◌}
use mathlib.Core.Bool.{Bool, true, false, cond}
use mathlib.Core.Path.{◌≡◌, refl, ap, sym, ◌∙◌, subst}
use mathlib.Core.Logic.{◌≢◌, ◌⊎◌, inl, inr, ⊎_elim, by_cases}
use native.Mathlib.Decide.{ℕ_discrete}
use native.Mathlib.Omega.{arith}
use borrow.Author.Tests.{eqb-true, eqb-false}
use lib.Dec.{eqb}
use Rattle.event.specs.Events.{event_of}
use Rattle.undo.specs.Entering.{live_event}
use Rattle.entry.specs.Words.{said_by}
use Rattle.thread_log.specs.Entries.{live_count}
use Rattle.undo.specs.Regions.{is_acquire, is_release, goes_on, oldest_region}
use Rattle.event.specs.declared.Event.{Event}
use Rattle.entry.specs.declared.Entry.{Entry}
use Rattle.thread_log.specs.declared.Log.{Log}
use Rattle.event.proofs.EventLaws.{says}
use Rattle.undo.proofs.UndoInvariant.{UndoHolds}

-- so many of the next `count` events, from `first` on, go on a region: no ACQUIRE is among them and only the last may be a RELEASE
record GoesOn (said : ℕ → Event) (first count size : ℕ) : Type 0 where
  most : size ≤ count
  no_acquire : (number : ℕ) → first ≤ number → number < first + size → is_acquire (said number) ≡ false
  no_release : (number : ℕ) → first ≤ number → number + 1 < first + size → is_release (said number) ≡ false
  ends : size < count → (is_acquire (said (first + size)) ≡ true) ⊎ ((1 ≤ size) × (is_release (said (first + size - 1)) ≡ true))

-- what is said at one number is said at an equal one
pub moved : (said : ℕ → Event) (test : Event → Bool) (value : Bool) {one other : ℕ} → one ≡ other → test (said one) ≡ value
    → test (said other) ≡ value
moved said test value same is = subst (λ number. test (said number) ≡ value) same is

goes_nowhere : (said : ℕ → Event) (first : ℕ) → GoesOn said first zero 0
goes_nowhere said first = record {
  most = omega arith;
  no_acquire = λ number from to. absurd (omega arith);
  no_release = λ number from to. absurd (omega arith);
  ends = λ more. absurd (omega arith);
}

module _ (said : ℕ → Event) (first count : ℕ) where
  goes-stopped : is_acquire (said first) ≡ true → GoesOn said first (suc count) 0
  goes-stopped acquires = record {
    most = omega arith;
    no_acquire = λ number from to. absurd (omega arith);
    no_release = λ number from to. absurd (omega arith);
    ends = λ more. inl (moved said is_acquire true (omega arith) acquires);
  }

  goes_last : is_acquire (said first) ≡ false → is_release (said first) ≡ true → GoesOn said first (suc count) 1
  goes_last acquires releases = record {
    most = omega arith;
    no_acquire = λ number from to. moved said is_acquire false (omega arith) acquires;
    no_release = λ number from to. absurd (omega arith);
    ends = λ more. inr (omega arith, moved said is_release true (omega arith) releases);
  }

  goes_further : (size : ℕ) → is_acquire (said first) ≡ false → is_release (said first) ≡ false → GoesOn said (suc first) count size
      → GoesOn said first (suc count) (suc size)
  goes_further size acquires releases later = record {
    most = omega arith;
    no_acquire = λ number from to.
        by_cases
        (ℕ_discrete first number)
        (λ same. moved said is_acquire false same acquires)
        (λ differs. later.no_acquire number (omega arith) (omega arith));
    no_release = λ number from to.
        by_cases
        (ℕ_discrete first number)
        (λ same. moved said is_release false same releases)
        (λ differs. later.no_release number (omega arith) (omega arith));
    ends = λ more.
        ⊎_elim
        (λ acquires'. inl (moved said is_acquire true (omega arith) acquires'))
        (λ releases'. inr (omega arith, moved said is_release true (omega (arith, releases'.0)) releases'.1))
        (later.ends (omega arith));
  }

goes_on_lem : (log : Log) (index count : ℕ) → GoesOn (live_event log) index count (goes_on log index count)
unfolding goes_on
goes_on_lem log index zero = goes_nowhere (live_event log) index
goes_on_lem log index (suc count) =
    by_tests (is_acquire (live_event log index)) refl (is_release (live_event log index)) refl (goes_on_lem log (suc index) count)
  where
    by_tests : (acquires : Bool) → is_acquire (live_event log index) ≡ acquires → (releases : Bool)
        → is_release (live_event log index) ≡ releases → GoesOn (live_event log) (suc index) count (goes_on log (suc index) count)
        → GoesOn (live_event log) index (suc count) (cond acquires 0 (cond releases 1 (suc (goes_on log (suc index) count))))
    by_tests true acquires releases releasing later = goes-stopped (live_event log) index count acquires
    by_tests false acquires true releases later = goes_last (live_event log) index count acquires releases
    by_tests false acquires false releases later =
        goes_further (live_event log) index count (goes_on log (suc index) count) acquires releases later

-- of so many live entries at most all go on the region before them
pub goes-most : (log : Log) (index count : ℕ) → goes_on log index count ≤ count
goes-most log index count = (goes_on_lem log index count).most

-- how far a run goes that begins at the head: an ACQUIRE can only be its first entry and a RELEASE only its last, and it goes on to the
-- last entry, to an ACQUIRE or to a RELEASE
pub record RegionIs (log : Log) (events : ℕ → Event) (size : ℕ) : Type 0 where
  pub region_live : size ≤ live_count log
  pub region_some : live_count log ≢ 0 → 1 ≤ size
  pub no_acquire : (number : ℕ) → log.head.0 < number → number < log.head.0 + size → is_acquire (events number) ≡ false
  pub no_release : (number : ℕ) → log.head.0 ≤ number → number + 1 < log.head.0 + size → is_release (events number) ≡ false
  pub region_ends : log.head.0 + size < log.tail.next.0
      → (is_acquire (events (log.head.0 + size)) ≡ true) ⊎ (is_release (events (log.head.0 + size - 1)) ≡ true)

module _ (log : Log) (events : ℕ → Event) (inv : UndoHolds log events) where
  -- what a live entry says
  pub live-event : (index number : ℕ) → log.head.0 + index ≡ number → number < log.tail.next.0 → live_event log index ≡ events number
  live-event index number is below =
      ap (λ (entry : Entry). event_of (said_by entry)) (inv.cached_is (log.head.0 + index) (omega arith) (omega arith))
      ∙ says (events (log.head.0 + index))
      ∙ ap events is

  pub oldest-region : RegionIs log events (oldest_region log)
  unfolding oldest_region
  oldest-region = by_tests (eqb (live_count log) 0) refl (is_release (live_event log 0)) refl
    where
      by_tests : (empty : Bool) → eqb (live_count log) 0 ≡ empty → (releases : Bool) → is_release (live_event log 0) ≡ releases
          → RegionIs log events (cond empty 0 (cond releases 1 (suc (goes_on log 1 (live_count log - 1)))))
      by_tests true empty releases releasing =
          let none = eqb-true (live_count log) 0 empty in
          record {
            region_live = omega arith;
            region_some = λ some. absurd (some none);
            no_acquire = λ number from to. absurd (omega arith);
            no_release = λ number from to. absurd (omega arith);
            region_ends = λ more. absurd (omega arith);
          }
      by_tests false empty true releases =
          let some = eqb-false (live_count log) 0 empty in
          record {
            region_live = omega arith;
            region_some = λ some. omega arith;
            no_acquire = λ number from to. absurd (omega arith);
            no_release = λ number from to. absurd (omega arith);
            region_ends = λ more. inr (sym (ap is_release (live-event 0 (log.head.0 + 1 - 1) (omega arith) (omega arith))) ∙ releases);
          }
      by_tests false empty false releases =
          let some = eqb-false (live_count log) 0 empty in
          let run = goes_on_lem log 1 (live_count log - 1) in
          record {
            region_live = omega (arith, run.most);
            region_some = λ some. omega arith;
            no_acquire = λ number from to.
                sym (ap is_acquire (live-event (number - log.head.0) number (omega arith) (omega (arith, run.most))))
                ∙ run.no_acquire (number - log.head.0) (omega arith) (omega arith);
            no_release = λ number from to.
                by_cases
                (ℕ_discrete log.head.0 number)
                (λ same. sym (ap is_release (live-event 0 number (omega arith) (omega (arith, run.most)))) ∙ releases)
                (λ differs.
                sym (ap is_release (live-event (number - log.head.0) number (omega arith) (omega (arith, run.most))))
                ∙ run.no_release (number - log.head.0) (omega arith) (omega arith));
            region_ends = λ more.
                ⊎_elim
                (λ acquires. inl (sym (ap is_acquire (live-event (1 + goes_on log 1 (live_count log - 1)) _ (omega arith) more)) ∙ acquires))
                (λ ended. inr
                (sym (ap is_release (live-event (1 + goes_on log 1 (live_count log - 1) - 1) _ (omega arith) (omega arith))) ∙ ended.1))
                (run.ends (omega arith));
          }
