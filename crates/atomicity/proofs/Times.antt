-- When entries were made: in a thread in their order, before now, each by an accepted step of its thread, of the entry's kind and of its
-- cell or lock. And what entries can say: a cell below 128 or a lock below 8.
use Prim.Native.Nat.{ℕ, ◌<◌}
use native.Mathlib.Omega.{arith}
use mathlib.Core.Path.{◌≡◌, sym, ap, ◌∙◌}
use mathlib.Core.Bool.{true}
use mathlib.Core.List.{List}
use mathlib.Core.Logic.{⊎_elim}
use lib.ListN.{length}
use Rattle.sizes.specs.Sizes.{lock_count}
use Rattle.event.specs.Events.{place_of}
use Rattle.event.specs.declared.Event.{Event}
use Rattle.event.specs.declared.Event.TheVariants.{Empty, Store, Acquire, Release}
use Rattle.event.specs.declared.SyncCount.{SyncCount}
use Rattle.atomicity.specs.History.{Fed, step_at}
use Rattle.atomicity.proofs.Logged.{Entries, Made, Is, Grows, Keeps, Appends, made_kept, kept-is, made-cases, is-cases}
use Rattle.atomicity.proofs.Places.{last_of, length-then, step-before, step-new, last-was}
use Rattle.atomicity.proofs.Ordered.{and_then}

-- what an entry can say
pub data Formed : Event → Type 0 where
  a_store : {cell old : ℕ} → cell < 128 → Formed (Store cell old)
  an_acquire : {lock : ℕ} {count : SyncCount} → lock < lock_count → Formed (Acquire lock count)
  a_release : {lock : ℕ} {count : SyncCount} → lock < lock_count → Formed (Release lock count)

pub release_formed : {lock : ℕ} {count : SyncCount} → Formed (Release lock count) → lock < lock_count
release_formed (a_release in_range) = in_range

-- the kind of the steps that make an entry which says this: 2 LOG, 4 ACQUIRE and 5 LOGREL
abbrev pub step_kind_of : Event → ℕ
step_kind_of Empty = 0
step_kind_of (Store cell old) = 2
step_kind_of (Acquire lock count) = 4
step_kind_of (Release lock count) = 5

-- the step at this place is the accepted one that made the entry
pub record EntryStep (entries : Entries) (history : List Fed) (thread number : ℕ) (event : Event) (place : ℕ) : Type 0 where
  pub is_accepted : (step_at history place).accepted ≡ true
  pub is_kind : (step_at history place).kind ≡ step_kind_of event
  pub is_thread : (step_at history place).thread ≡ thread
  pub is_place : (step_at history place).place ≡ place_of event
  pub is_last : last_of entries history place ≡ number
  pub is_made : entries.made place ≡ true

pub record TimesHold (history : List Fed) (entries : Entries) : Type 0 where
  pub past : (thread number : ℕ) → Made entries thread number → entries.time thread number < length history
  pub later : (thread number next : ℕ) → Made entries thread number → Made entries thread next → number < next →
      entries.time thread number < entries.time thread next
  pub formed : (thread number : ℕ) → Made entries thread number → Formed (entries.event thread number)
  pub entry_step : {thread number : ℕ} {event : Event} → Is entries thread number event
      → EntryStep entries history thread number event (entries.time thread number)

-- the step that made an entry stays it as history and entries grow
entry-step-then : {old new : Entries} {history : List Fed} {thread number place : ℕ} {event : Event} (fed : Fed) →
    Grows old new (length history) → place < length history → EntryStep old history thread number event place →
    EntryStep new (and_then history fed) thread number event place
entry-step-then {history = history} {place = place} fed grows before step = record {
  is_accepted = ap (λ (s : Fed). s.accepted) (step-before history fed before) ∙ step.is_accepted;
  is_kind = ap (λ (s : Fed). s.kind) (step-before history fed before) ∙ step.is_kind;
  is_thread = ap (λ (s : Fed). s.thread) (step-before history fed before) ∙ step.is_thread;
  is_place = ap (λ (s : Fed). s.place) (step-before history fed before) ∙ step.is_place;
  is_last = last-was history fed grows before ∙ step.is_last;
  is_made = grows.made_same place (λ same. omega arith) ∙ step.is_made;
}

pub times_keep : {history : List Fed} {old new : Entries} (fed : Fed) → Keeps old new (length history) →
    TimesHold history old → TimesHold (and_then history fed) new
times_keep {history} {old} {new} fed keeps holds = record {
  past = λ thread number made.
      let was = made_kept keeps made in
      let before = holds.past thread number was in
      rw (keeps.grows.time_same thread number was, length-then history fed) (omega arith);
  later = λ thread number next made also less.
      let was = made_kept keeps made in
      let too = made_kept keeps also in
      rw (keeps.grows.time_same thread number was, keeps.grows.time_same thread next too) (holds.later thread number next was too less);
  formed = λ thread number made.
      let was = made_kept keeps made in rw (keeps.grows.says_same thread number was) (holds.formed thread number was);
  entry_step = λ {thread} {number} is.
      let was = kept-is keeps is in
      rw (keeps.grows.time_same thread number was.made)
      (entry-step-then fed keeps.grows (holds.past thread number was.made) (holds.entry_step was));
}

-- what a step that makes an entry is
pub record MakesEntry (history : List Fed) (fed : Fed) (old new : Entries) (thread : ℕ) (event : Event) : Type 0 where
  pub appends : Appends old new (length history) thread event
  pub is_formed : Formed event
  pub is_kind : fed.kind ≡ step_kind_of event
  pub is_place : fed.place ≡ place_of event
  pub is_accepted : fed.accepted ≡ true
  pub is_thread : fed.thread ≡ thread
  pub is_last : last_of new (and_then history fed) (length history) ≡ old.next thread

module _ {history : List Fed} {fed : Fed} {old new : Entries} {thread : ℕ} {event : Event}
    (step : MakesEntry history fed old new thread event) (holds : TimesHold history old) where
  old-time : (other number : ℕ) → Made old other number → new.time other number < length history
  old-time other number made = rw (step.appends.grows.time_same other number made) (holds.past other number made)

  new-time : {other number : ℕ} → (other ≡ thread) × (number ≡ old.next thread) → new.time other number ≡ length history
  new-time at = rw (at.0, at.1) step.appends.time_new

  pub times-append : TimesHold (and_then history fed) new
  times-append = record {
    past = λ other number made.
        rw (length-then history fed)
        (⊎_elim
        (λ was. let before = old-time other number was in omega arith)
        (λ at. let now = new-time at in omega arith)
        (made-cases step.appends made));
    later = λ other number next made also less.
        ⊎_elim
        (λ was.
        ⊎_elim
        (λ too. rw (step.appends.grows.time_same other number was, step.appends.grows.time_same other next too)
        (holds.later other number next was too less))
        (λ at. rw (new-time {other = other} {number = next} at) (old-time other number was))
        (made-cases step.appends also))
        (λ at.
        ⊎_elim
        (λ too. let under =
        too.below in let place = at.1 in let here : old.next other ≡ old.next thread = ap old.next at.0 in absurd (omega arith))
        (λ again. let one = at.1 in let other = again.1 in absurd (omega arith))
        (made-cases step.appends also))
        (made-cases step.appends made);
    formed = λ other number made.
        ⊎_elim
        (λ was. rw (step.appends.grows.says_same other number was) (holds.formed other number was))
        (λ at. rw (at.0, at.1, step.appends.says_new) step.is_formed)
        (made-cases step.appends made);
    entry_step = λ {thread = other} {number} {event = says} is.
        ⊎_elim
        (λ was.
        rw (step.appends.grows.time_same other number was.made)
        (entry-step-then fed step.appends.grows (holds.past other number was.made) (holds.entry_step was)))
        (λ at.
        rw (new-time {other = other} {number = number} (at.0, at.1)) (record {
          is_accepted = ap (λ (s : Fed). s.accepted) (step-new history fed) ∙ step.is_accepted;
          is_kind = ap (λ (s : Fed). s.kind) (step-new history fed) ∙ (step.is_kind ∙ ap step_kind_of (sym at.2));
          is_thread = ap (λ (s : Fed). s.thread) (step-new history fed) ∙ (step.is_thread ∙ sym at.0);
          is_place = ap (λ (s : Fed). s.place) (step-new history fed) ∙ (step.is_place ∙ ap place_of (sym at.2));
          is_last = step.is_last ∙ sym at.1;
          is_made = step.appends.made_new;
        }))
        (is-cases step.appends is);
  }
