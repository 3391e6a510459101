-- Every entry that the threads ever made, pruned ones too: what an append adds, and what stays. The logs' entries, heads and durable LSNs
-- are given as functions of the thread, so that each concern can speak of them without the machine.
use Prim.Native.Nat.{ℕ, suc, ◌≤◌, ◌<◌}
use native.Mathlib.Decide.{dec_lt, ℕ_discrete}
use native.Mathlib.Omega.{arith}
use mathlib.Core.Path.{◌≡◌, sym, ap, ◌∙◌}
use mathlib.Core.Bool.{Bool, true}
use mathlib.Core.Logic.{◌⊎◌, inl, inr, ⊎_elim, by_cases}
use Rattle.event.specs.Events.{sync_count}
use Rattle.event.specs.declared.Event.{Event}
use Rattle.event.specs.declared.Event.TheVariants.{Acquire, Release}

-- the entries: what each says and the place of its step in the history, by thread and LSN; which places of the history have a step that
-- made an entry; the last LSN given before the history began, the next LSN, the head and the last durable LSN of each thread
pub record Entries : Type 0 where
  pub event : ℕ → ℕ → Event
  pub time : ℕ → ℕ → ℕ
  pub made : ℕ → Bool
  pub before : ℕ → ℕ
  pub next : ℕ → ℕ
  pub head : ℕ → ℕ
  pub durable : ℕ → ℕ

-- the thread made an entry of this LSN
pub record Made (entries : Entries) (thread number : ℕ) : Type 0 where
  pub since : entries.before thread < number
  pub below : number < entries.next thread

-- the entry is this
pub record Is (entries : Entries) (thread number : ℕ) (event : Event) : Type 0 where
  pub made : Made entries thread number
  pub says : entries.event thread number ≡ event

-- the entry is a RELEASE, or an ACQUIRE, of the lock with this count
abbrev pub IsReleaseOf : Entries → ℕ → ℕ → ℕ → ℕ → Type 0
IsReleaseOf entries thread number lock count = Is entries thread number (Release lock (sync_count count))

abbrev pub IsAcquireOf : Entries → ℕ → ℕ → ℕ → ℕ → Type 0
IsAcquireOf entries thread number lock count = Is entries thread number (Acquire lock (sync_count count))

-- a step at this place of the history: the entries that were there still are, heads and durable LSNs do not fall
pub record Grows (old new : Entries) (now : ℕ) : Type 0 where
  pub still : (thread number : ℕ) → Made old thread number → Made new thread number
  pub says_same : (thread number : ℕ) → Made old thread number → new.event thread number ≡ old.event thread number
  pub time_same : (thread number : ℕ) → Made old thread number → new.time thread number ≡ old.time thread number
  pub made_same : (place : ℕ) → (place ≡ now → ⊥) → new.made place ≡ old.made place
  pub before_same : new.before ≡ old.before
  pub head_grows : (thread : ℕ) → old.head thread ≤ new.head thread
  pub durable_grows : (thread : ℕ) → old.durable thread ≤ new.durable thread

-- a step at this place of the history that makes no entry
pub record Keeps (old new : Entries) (now : ℕ) : Type 0 where
  pub grows : Grows old new now
  pub next_same : (thread : ℕ) → new.next thread ≡ old.next thread
  pub made_still : new.made now ≡ old.made now

-- a step at this place of the history that makes one entry more, of this thread
pub record Appends (old new : Entries) (now thread : ℕ) (event : Event) : Type 0 where
  pub grows : Grows old new now
  pub next_more : new.next thread ≡ suc (old.next thread)
  pub next_other : (other : ℕ) → (other ≡ thread → ⊥) → new.next other ≡ old.next other
  pub says_new : new.event thread (old.next thread) ≡ event
  pub time_new : new.time thread (old.next thread) ≡ now
  pub made_new : new.made now ≡ true
  pub next_since : old.before thread < old.next thread
  pub head_same : (other : ℕ) → new.head other ≡ old.head other
  pub durable_same : (other : ℕ) → new.durable other ≡ old.durable other

module _ {old new : Entries} {now : ℕ} (grows : Grows old new now) where
  -- an entry that was there is still there
  pub still-is : {thread number : ℕ} {event : Event} → Is old thread number event → Is new thread number event
  still-is {thread} {number} is = record {
    made = grows.still thread number is.made;
    says = grows.says_same thread number is.made ∙ is.says;
  }

  -- an entry that was there says what it said
  pub was : {thread number : ℕ} {event : Event} → Made old thread number → Is new thread number event → Is old thread number event
  was {thread} {number} made is = record {
    made = made;
    says = sym (grows.says_same thread number made) ∙ is.says;
  }

module _ {old new : Entries} {now : ℕ} (keeps : Keeps old new now) where
  pub made_kept : {thread number : ℕ} → Made new thread number → Made old thread number
  made_kept {thread} {number} made = record {
    since = rw keeps.grows.before_same at made.since;
    below = rw (keeps.next_same thread) at made.below;
  }

  -- an entry that is there now was there before
  pub kept-is : {thread number : ℕ} {event : Event} → Is new thread number event → Is old thread number event
  kept-is is = was keeps.grows (made_kept is.made) is

module _ {old new : Entries} {now thread : ℕ} {event : Event} (appends : Appends old new now thread event) where
  -- an entry that is there now was there before, or is the one new entry
  pub made-cases : {other number : ℕ} → Made new other number → Made old other number ⊎ ((other ≡ thread) × (number ≡ old.next thread))
  made-cases {other} {number} made =
      by_cases
      (ℕ_discrete other thread)
      (λ same.
      by_cases
      (dec_lt number (old.next thread))
      (λ before. inl (record { since = rw appends.grows.before_same at made.since; below = rw (← same) at before }))
      (λ not_before.
      let under : number < suc (old.next thread) = rw appends.next_more at (rw same at made.below) in
      inr (same, omega (arith, not_before))))
      (λ differs. inl
      (record { since = rw appends.grows.before_same at made.since; below = rw (appends.next_other other differs) at made.below }))

  pub new-made : Made new thread (old.next thread)
  new-made = record { since = rw appends.grows.before_same appends.next_since; below = omega (arith, appends.next_more) }

  pub new_is : Is new thread (old.next thread) event
  new_is = record { made = new-made; says = appends.says_new }

  pub is-cases : {other number : ℕ} {says : Event} → Is new other number says →
      Is old other number says ⊎ ((other ≡ thread) × (number ≡ old.next thread) × (says ≡ event))
  is-cases {other} {number} {says} is =
      ⊎_elim
      (λ made. inl (was appends.grows made is))
      (λ at.
      inr (
        at.0,
        at.1,
        sym is.says ∙
            (ap (λ (n : ℕ). new.event other n) at.1 ∙ (ap (λ (t : ℕ). new.event t (old.next thread)) at.0 ∙ appends.says_new)),
      ))
      (made-cases is.made)
