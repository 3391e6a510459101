-- The LOGREL steps of a history and the RELEASE entries: each accepted LOGREL made one, and each RELEASE entry was made by one.
use Prim.Native.Nat.{ℕ}
use native.Mathlib.Omega.{arith}
use mathlib.Core.Path.{◌≡◌, refl, sym, ◌∙◌}
use mathlib.Core.Bool.{Bool, true, false, ◌&&◌, and-false}
use mathlib.Core.List.{List}
use mathlib.Core.Logic.{inr}
use lib.Dec.{eqb}
use borrow.Author.Tests.{eqb-true, eq-eqb}
use Rattle.event.specs.Events.{place_of}
use Rattle.event.specs.declared.Event.{Event}
use Rattle.event.specs.declared.Event.TheVariants.{Empty, Store, Acquire, Release}
use Rattle.event.specs.declared.SyncCount.{SyncCount}
use Rattle.atomicity.specs.History.{Fed, step_at}
use Rattle.atomicity.proofs.Logged.{Entries, Is}
use Rattle.atomicity.proofs.EntrySteps.{stands}
use Rattle.atomicity.proofs.Places.{PlacesHold, last_of}
use Rattle.atomicity.proofs.Times.{TimesHold, step_kind_of}

-- the step is an accepted LOGREL (5) of the lock
pub record LogsRelease (fed : Fed) (lock : ℕ) : Type 0 where
  pub is_accepted : fed.accepted ≡ true
  pub is_kind : fed.kind ≡ 5
  pub is_lock : fed.place ≡ lock

-- the test, where the step is an accepted LOGREL of the lock, and else false
abbrev pub if_releases : Fed → ℕ → Bool → Bool
if_releases fed lock test = fed.accepted && eqb fed.kind 5 && eqb fed.place lock && test

pub releases-then : {fed : Fed} {lock : ℕ} → LogsRelease fed lock → (test : Bool) → if_releases fed lock test ≡ test
releases-then releases test = rw (releases.is_accepted, eq-eqb _ _ releases.is_kind, eq-eqb _ _ releases.is_lock)

-- two tests that agree where the step is an accepted LOGREL of the lock agree once that is asked first
pub releases_agree : (fed : Fed) (lock : ℕ) (one other : Bool) → (LogsRelease fed lock → one ≡ other) →
    if_releases fed lock one ≡ if_releases fed lock other
releases_agree fed lock one other agree = by_tests fed.accepted refl (eqb fed.kind 5) refl (eqb fed.place lock) refl
  where
    by_tests : (a : Bool) → fed.accepted ≡ a → (k : Bool) → eqb fed.kind 5 ≡ k → (l : Bool) →
        eqb fed.place lock ≡ l → (a && k && l && one) ≡ (a && k && l && other)
    by_tests true is_accepted true is_kind true is_lock =
        agree (record { is_accepted = is_accepted; is_kind = eqb-true _ _ is_kind; is_lock = eqb-true _ _ is_lock })
    by_tests true is_accepted true is_kind false is_lock = refl
    by_tests true is_accepted false is_kind l is_lock = refl
    by_tests false is_accepted k is_kind l is_lock = refl

pub releases_fail : (fed : Fed) (lock : ℕ) (test : Bool) → (LogsRelease fed lock → test ≡ false) → if_releases fed lock test ≡ false
releases_fail fed lock test fails =
    releases_agree fed lock test false fails ∙ and-false (fed.accepted && eqb fed.kind 5 && eqb fed.place lock)

-- the LOGREL step at this place made the RELEASE entry at which it stands
pub record StandsAt (history : List Fed) (entries : Entries) (place lock : ℕ) : Type 0 where
  pub count : SyncCount
  pub is_entry : Is entries (step_at history place).thread (last_of entries history place) (Release lock count)
  pub is_time : entries.time (step_at history place).thread (last_of entries history place) ≡ place

-- the step at this place is the LOGREL of the lock that made this entry
pub record MadeAt (entries : Entries) (history : List Fed) (thread number lock place : ℕ) : Type 0 where
  pub is_step : LogsRelease (step_at history place) lock
  pub is_thread : (step_at history place).thread ≡ thread
  pub is_last : last_of entries history place ≡ number

-- an entry that a LOGREL (5) makes is a RELEASE of its lock
a-release : (event : Event) (lock : ℕ) → step_kind_of event ≡ 5 → place_of event ≡ lock → (count : SyncCount) × (event ≡ Release lock count)
a-release Empty lock is_kind is_place = absurd (omega arith)
a-release (Store cell old) lock is_kind is_place = absurd (omega arith)
a-release (Acquire held count) lock is_kind is_place = absurd (omega arith)
a-release (Release held count) lock is_kind is_place = (count, rw is_place)

module _ {history : List Fed} {entries : Entries} {counts : ℕ → ℕ} (places : PlacesHold history entries counts)
    (times : TimesHold history entries) where
  pub stands_at : {place lock : ℕ} → LogsRelease (step_at history place) lock → StandsAt history entries place lock
  stands_at {place} {lock} releases =
      let stood =
      stands places times (record { is_accepted = releases.is_accepted; is_kind = releases.is_kind }) refl (inr refl) in
      let says =
      a-release _ lock (sym stood.is_kind ∙ releases.is_kind) (sym stood.is_place ∙ releases.is_lock) in
      record { count = says.0; is_entry = record { made = stood.made; says = says.1 }; is_time = stood.is_time }

  pub made_at : {thread number lock : ℕ} {count : SyncCount} → Is entries thread number (Release lock count) →
      MadeAt entries history thread number lock (entries.time thread number)
  made_at is =
      let step = times.entry_step is in
      record {
        is_step = record { is_accepted = step.is_accepted; is_kind = step.is_kind; is_lock = step.is_place };
        is_thread = step.is_thread;
        is_last = step.is_last;
      }
