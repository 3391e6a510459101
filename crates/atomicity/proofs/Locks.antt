-- What the locks, the entries and the heads have to do with each other.
-- A RELEASE entry whose step was taken is durable; each RELEASE of a lock with a smaller count was made before each ACQUIRE with a larger
-- one; a pruned ACQUIRE's smaller RELEASEs are pruned. Each kind of step keeps all of it.
use Rattle.std.specs.Prelude.{None, Option, Some}
use Prim.Native.Nat.{ℕ, suc, ◌+◌, ◌-◌, ◌≤◌, ◌<◌}
use native.Mathlib.Decide.{dec_lt, ℕ_discrete}
use native.Mathlib.Omega.{arith}
use mathlib.Core.Path.{◌≡◌, sym, ap, ◌∙◌, subst}
use mathlib.Core.Logic.{◌⊎◌, inl, inr, ⊎_elim, by_cases}
use Rattle.std.proofs.lemmas.Option.{none-some}
use Rattle.event.specs.Events.{sync_count}
use Rattle.event.specs.declared.Event.{Event}
use Rattle.event.specs.declared.Event.TheVariants.{Acquire, Release}
use Rattle.atomicity.proofs.Logged.{Entries, Made, IsReleaseOf, IsAcquireOf, Keeps, Appends, still-is, kept-is, new_is}
use Rattle.atomicity.proofs.Logged.{is-cases}

-- which lock each thread is releasing; each lock's holder, count, and pruned RELEASEs
pub record Locks : Type 0 where
  pub releasing : ℕ → Option ℕ
  pub holder : ℕ → Option ℕ
  pub count : ℕ → ℕ
  pub pruned : ℕ → ℕ

-- the RELEASE entry is its thread's last one, and its step was not taken yet
pub record Waits (entries : Entries) (locks : Locks) (thread number lock count : ℕ) : Type 0 where
  pub is_count : count ≡ locks.count lock
  pub is_held : locks.holder lock ≡ Some thread
  pub is_releasing : locks.releasing thread ≡ Some lock
  pub is_last : suc number ≡ entries.next thread

pub record LocksHold (entries : Entries) (locks : Locks) : Type 0 where
  -- a RELEASE entry's step was taken, and then the count is larger, or it waits
  pub state : {thread number lock count : ℕ} → IsReleaseOf entries thread number lock count →
      (count < locks.count lock) ⊎ Waits entries locks thread number lock count
  -- a RELEASE entry whose step was taken is durable
  pub durable : {thread number lock count : ℕ} → IsReleaseOf entries thread number lock count →
      count < locks.count lock → number ≤ entries.durable thread
  pub acquire_count : {thread number lock count : ℕ} → IsAcquireOf entries thread number lock count → count ≤ locks.count lock
  pub in_time : {thread number other later lock count larger : ℕ} → IsReleaseOf entries thread number lock count →
      IsAcquireOf entries other later lock larger → count < larger →
      entries.time thread number < entries.time other later
  pub held : {thread lock : ℕ} → locks.holder lock ≡ Some thread →
      (number : ℕ) × IsAcquireOf entries thread number lock (locks.count lock)
  pub held_while : {thread lock : ℕ} → locks.releasing thread ≡ Some lock → locks.holder lock ≡ Some thread
  pub last_while : {thread lock : ℕ} → locks.releasing thread ≡ Some lock →
      (number : ℕ) × (suc number ≡ entries.next thread) × IsReleaseOf entries thread number lock (locks.count lock)
  -- one RELEASE a lock and count
  pub unique : {thread number other another lock count : ℕ} → IsReleaseOf entries thread number lock count →
      IsReleaseOf entries other another lock count → (thread ≡ other) × (number ≡ another)
  -- a RELEASE has its ACQUIRE before it in the same log
  pub paired : {thread number lock count : ℕ} → IsReleaseOf entries thread number lock count →
      (before : ℕ) × IsAcquireOf entries thread before lock count × (before < number)

-- what is pruned: an ACQUIRE only when the RELEASEs of smaller counts are, and of a lock's RELEASEs the first so many
pub record PrunesHold (entries : Entries) (locks : Locks) : Type 0 where
  pub acquire_pruned : {thread number lock count : ℕ} → IsAcquireOf entries thread number lock count →
      number < entries.head thread → count ≤ locks.pruned lock
  pub release_pruned : {thread number lock count : ℕ} → IsReleaseOf entries thread number lock count →
      count < locks.pruned lock → number < entries.head thread
  -- no more RELEASEs of a lock are pruned than were taken
  pub pruned_count : (lock : ℕ) → locks.pruned lock ≤ locks.count lock

-- across locks, pruned is closed downward
pub pruned_before : {entries : Entries} {locks : Locks} {thread number other later lock count larger : ℕ} →
    PrunesHold entries locks → IsReleaseOf entries thread number lock count →
    IsAcquireOf entries other later lock larger → count < larger → later < entries.head other →
    number < entries.head thread
pruned_before holds release acquire smaller pruned =
    let bound = holds.acquire_pruned acquire pruned in
    holds.release_pruned release (omega arith)

-- a RELEASE with a larger ACQUIRE had its step taken, and is durable
pub durable_before : {entries : Entries} {locks : Locks} {thread number other later lock count larger : ℕ} →
    LocksHold entries locks → IsReleaseOf entries thread number lock count →
    IsAcquireOf entries other later lock larger → count < larger → number ≤ entries.durable thread
durable_before holds release acquire smaller =
    let bound = holds.acquire_count acquire in
    holds.durable release (omega arith)

-- none is not some: nobody is not a thread, and releasing nothing is not releasing a lock
pub never-both : {A : Type 0} {found : Option ℕ} {value : ℕ} → found ≡ None → found ≡ Some value → A
never-both {value = value} is_none is_value = absurd (none-some value (sym is_none ∙ is_value))

-- the locks' parts are the same
pub record SameLocks (old new : Locks) : Type 0 where
  pub releasing_same : (thread : ℕ) → new.releasing thread ≡ old.releasing thread
  pub holder_same : (lock : ℕ) → new.holder lock ≡ old.holder lock
  pub count_same : (lock : ℕ) → new.count lock ≡ old.count lock

-- a step that makes no entry, and leaves holders, counts and the locks being released, keeps what holds of the locks
pub locks_keep : {old new : Entries} {now : ℕ} {locks after : Locks} → Keeps old new now → SameLocks locks after →
    LocksHold old locks → LocksHold new after
locks_keep {old} {new} {now} {locks} {after} keeps same holds = record {
  state = λ {thread} {number} {lock} {count} release.
      ⊎_elim
      (λ taken. inl (rw (← same.count_same lock) at taken))
      (λ waits. inr (record {
        is_count = waits.is_count ∙ sym (same.count_same lock);
        is_held = same.holder_same lock ∙ waits.is_held;
        is_releasing = same.releasing_same thread ∙ waits.is_releasing;
        is_last = waits.is_last ∙ sym (keeps.next_same thread);
      }))
      (holds.state (kept-is keeps release));
  durable = λ {thread} {number} {lock} {count} release taken.
      let grew = keeps.grows.durable_grows thread in
      let was-taken : count < locks.count lock = rw (same.count_same lock) at taken in
      let was-durable = holds.durable (kept-is keeps release) was-taken in
      omega arith;
  acquire_count = λ {thread} {number} {lock} {count} acquire. rw (← same.count_same lock) at (holds.acquire_count (kept-is keeps acquire));
  in_time = λ {thread} {number} {other} {later} release acquire smaller.
      let first = kept-is keeps release in
      let second = kept-is keeps acquire in
      rw (keeps.grows.time_same thread number first.made, keeps.grows.time_same other later second.made)
      (holds.in_time first second smaller);
  held = λ {thread} {lock} is_held.
      let found = holds.held (sym (same.holder_same lock) ∙ is_held) in
      (found.0, rw (← same.count_same lock) at (still-is keeps.grows found.1));
  held_while = λ {thread} {lock} is_releasing. same.holder_same lock ∙ holds.held_while (sym (same.releasing_same thread) ∙ is_releasing);
  last_while = λ {thread} {lock} is_releasing.
      let found = holds.last_while (sym (same.releasing_same thread) ∙ is_releasing) in
      (found.0, found.1 ∙ sym (keeps.next_same thread), rw (← same.count_same lock) at (still-is keeps.grows found.2));
  unique = λ one other. holds.unique (kept-is keeps one) (kept-is keeps other);
  paired = λ release.
      let found = holds.paired (kept-is keeps release) in
      (found.0, still-is keeps.grows found.1, found.2);
}

-- a step that makes no entry, moves no head, prunes no RELEASE and lowers no count keeps what holds of what is pruned
pub prunes_keep : {old new : Entries} {now : ℕ} {locks after : Locks} → Keeps old new now →
    ((thread : ℕ) → new.head thread ≡ old.head thread) → ((lock : ℕ) → after.pruned lock ≡ locks.pruned lock) →
    ((lock : ℕ) → locks.count lock ≤ after.count lock) → PrunesHold old locks → PrunesHold new after
prunes_keep keeps heads same grows holds = record {
  acquire_pruned = λ {thread} {number} {lock} acquire is_pruned.
      rw (same lock) (holds.acquire_pruned (kept-is keeps acquire) (rw (heads thread) at is_pruned));
  release_pruned = λ {thread} {number} {lock} release is_pruned.
      rw (heads thread) (holds.release_pruned (kept-is keeps release) (rw (same lock) at is_pruned));
  pruned_count = λ lock. let bound = holds.pruned_count lock in let grew = grows lock in rw (same lock) (omega arith);
}

-- what an append by a thread that is not releasing asks of its event and of the locks after it
pub record AppendLocks (old new : Entries) (now thread : ℕ) (event : Event) (locks after : Locks) : Type 0 where
  pub appends : Appends old new now thread event
  pub past : (other number : ℕ) → Made old other number → old.time other number < now
  pub head_next : old.head thread ≤ old.next thread
  pub not_releasing : locks.releasing thread ≡ None
  pub releasing_other : (other : ℕ) → (other ≡ thread → ⊥) → after.releasing other ≡ locks.releasing other
  pub holder_kept : {other lock : ℕ} → locks.holder lock ≡ Some other → after.holder lock ≡ Some other
  pub count_same : (lock : ℕ) → after.count lock ≡ locks.count lock
  pub pruned_same : (lock : ℕ) → after.pruned lock ≡ locks.pruned lock
  -- a RELEASE has the count of a lock that the thread holds, and the thread then releases it
  pub release_count : {lock count : ℕ} → event ≡ Release lock (sync_count count) → count ≡ locks.count lock
  pub release_held : {lock count : ℕ} → event ≡ Release lock (sync_count count) → locks.holder lock ≡ Some thread
  pub release_waits : {lock count : ℕ} → event ≡ Release lock (sync_count count) → after.releasing thread ≡ Some lock
  -- an ACQUIRE has the lock's count
  pub acquire_has : {lock count : ℕ} → event ≡ Acquire lock (sync_count count) → count ≡ locks.count lock
  -- who holds a lock now held it, or acquired it just now
  pub holder_cases : {other lock : ℕ} → after.holder lock ≡ Some other →
      (locks.holder lock ≡ Some other) ⊎ ((other ≡ thread) × (event ≡ Acquire lock (sync_count (locks.count lock))))
  -- after the append the thread is releasing a lock only if the event is a RELEASE of that lock with its count
  pub releasing_new : {lock : ℕ} → after.releasing thread ≡ Some lock → event ≡ Release lock (sync_count (locks.count lock))

module _ {old new : Entries} {now thread : ℕ} {event : Event} {locks after : Locks}
    (step : AppendLocks old new now thread event locks after) (holds : LocksHold old locks) where
  -- a lock that another thread releases stays so
  waits_kept : {other number lock count : ℕ} → Waits old locks other number lock count → Waits new after other number lock count
  waits_kept {other} {number} {lock} {count} waits =
      let differs : other ≡ thread → ⊥ = λ same. never-both step.not_releasing (rw same at waits.is_releasing) in
      record {
        is_count = waits.is_count ∙ sym (step.count_same lock);
        is_held = step.holder_kept waits.is_held;
        is_releasing = step.releasing_other other differs ∙ waits.is_releasing;
        is_last = waits.is_last ∙ sym (step.appends.next_other other differs);
      }

  -- an old RELEASE has not the new one's lock and count
  new-differs : {other number lock count : ℕ} {A : Type 0} → IsReleaseOf old other number lock count →
      event ≡ Release lock (sync_count count) → A
  new-differs {other} {number} {lock} {count} release says =
      ⊎_elim
      (λ taken. let equal = step.release_count says in absurd (omega arith))
      (λ waits.
      let one = waits.is_held in
      let another = step.release_held says in
      let same : other ≡ thread = cc in
      never-both step.not_releasing (rw same at waits.is_releasing))
      (holds.state release)

  pub locks-append : LocksHold new after
  locks-append = record {
    state = λ {thread = other} {number} {lock} {count} release.
        ⊎_elim
        (λ before.
        ⊎_elim
        (λ taken. inl (rw (← step.count_same lock) at taken))
        (λ waits. inr (waits_kept waits))
        (holds.state before))
        (λ at.
        inr (record {
          is_count = step.release_count (sym at.2) ∙ sym (step.count_same lock);
          is_held = rw at.0 (step.holder_kept (step.release_held (sym at.2)));
          is_releasing = rw at.0 (step.release_waits (sym at.2));
          is_last = rw (at.0, at.1) (sym step.appends.next_more);
        }))
        (is-cases step.appends release);
    durable = λ {thread = other} {number} {lock} {count} release taken.
        let was-taken : count < locks.count lock = rw (step.count_same lock) at taken in
        ⊎_elim
        (λ before. rw (step.appends.durable_same other) (holds.durable before was-taken))
        (λ at. let equal = step.release_count (sym at.2) in absurd (omega arith))
        (is-cases step.appends release);
    acquire_count = λ {thread = other} {number} {lock} {count} acquire.
        rw (step.count_same lock)
        (⊎_elim
        (λ before. holds.acquire_count before)
        (λ at. let equal = step.acquire_has (sym at.2) in omega arith)
        (is-cases step.appends acquire));
    in_time = λ {thread = first} {number} {other = second} {later} {lock} {count} {larger} release acquire smaller.
        ⊎_elim
        (λ before.
        let early = step.appends.grows.time_same first number before.made in
        let past = step.past first number before.made in
        ⊎_elim
        (λ also. rw (early, step.appends.grows.time_same second later also.made) (holds.in_time before also smaller))
        (λ at. rw (early, at.0, at.1, step.appends.time_new) past)
        (is-cases step.appends acquire))
        (λ at.
        let equal = step.release_count (sym at.2) in
        ⊎_elim
        (λ also. let bound = holds.acquire_count also in absurd (omega arith))
        (λ too. let is_release = at.2 in let is_acquire = too.2 in let never : ◌≡◌ {A = ℕ} 0 1 = cc in absurd (omega arith))
        (is-cases step.appends acquire))
        (is-cases step.appends release);
    held = λ {thread = other} {lock} is_held.
        ⊎_elim
        (λ before.
        let found = holds.held before in
        (found.0, rw (step.count_same lock) (still-is step.appends.grows found.1)))
        (λ acquired.
        (old.next thread, rw (acquired.0, step.count_same lock, ← acquired.1) (new_is step.appends)))
        (step.holder_cases is_held);
    held_while = λ {thread = other} {lock} is_releasing.
        by_cases
        (ℕ_discrete other thread)
        (λ same. rw same (step.holder_kept (step.release_held (step.releasing_new (rw same at is_releasing)))))
        (λ differs. step.holder_kept (holds.held_while (sym (step.releasing_other other differs) ∙ is_releasing)));
    last_while = λ {thread = other} {lock} is_releasing.
        by_cases
        (ℕ_discrete other thread)
        (λ same. (
          old.next thread,
          rw same (sym step.appends.next_more),
          rw (same, step.count_same lock, ← step.releasing_new (rw same at is_releasing)) (new_is step.appends),
        ))
        (λ differs.
        let found = holds.last_while (sym (step.releasing_other other differs) ∙ is_releasing) in (
          found.0,
          found.1 ∙ sym (step.appends.next_other other differs),
          rw (step.count_same lock) (still-is step.appends.grows found.2),
        ));
    unique = λ one another.
        ⊎_elim
        (λ first.
        ⊎_elim
        (λ second. holds.unique first second)
        (λ at. new-differs first (sym at.2))
        (is-cases step.appends another))
        (λ at.
        ⊎_elim
        (λ second. new-differs second (sym at.2))
        (λ too. (at.0 ∙ sym too.0, at.1 ∙ sym too.1))
        (is-cases step.appends another))
        (is-cases step.appends one);
    paired = λ {thread = other} {number} {lock} {count} release.
        ⊎_elim
        (λ before.
        let found = holds.paired before in
        (found.0, still-is step.appends.grows found.1, found.2))
        (λ at.
        let found = holds.held (step.release_held (sym at.2)) in
        let equal = step.release_count (sym at.2) in
        let acquire : IsAcquireOf new thread found.0 lock count =
        subst (λ (n : ℕ). IsAcquireOf new thread found.0 lock n) (sym equal) (still-is step.appends.grows found.1) in (
          found.0,
          subst (λ (t : ℕ). IsAcquireOf new t found.0 lock count) (sym at.0) acquire,
          rw at.1 found.1.made.below,
        ))
        (is-cases step.appends release);
  }

  pub prunes-append : PrunesHold old locks → PrunesHold new after
  prunes-append prunes = record {
    acquire_pruned = λ {thread = other} {number} {lock} acquire is_pruned.
        let was-pruned : number < old.head other = rw (step.appends.head_same other) at is_pruned in
        ⊎_elim
        (λ before. rw (step.pruned_same lock) (prunes.acquire_pruned before was-pruned))
        (λ at.
        let bound = step.head_next in
        let under : old.next thread < old.head thread = rw at.1 at (rw at.0 at was-pruned) in
        absurd (omega arith))
        (is-cases step.appends acquire);
    release_pruned = λ {thread = other} {number} {lock} {count} release is_pruned.
        let was-pruned : count < locks.pruned lock = rw (step.pruned_same lock) at is_pruned in
        rw (step.appends.head_same other)
        (⊎_elim
        (λ before. prunes.release_pruned before was-pruned)
        (λ at.
        let equal = step.release_count (sym at.2) in
        let bound = prunes.pruned_count lock in
        absurd (omega arith))
        (is-cases step.appends release));
    pruned_count = λ lock. rw (step.pruned_same lock, step.count_same lock) (prunes.pruned_count lock);
  }

-- what a RELEASE step asks and does
pub record ReleaseLocks (old new : Entries) (now thread lock : ℕ) (locks after : Locks) : Type 0 where
  pub keeps : Keeps old new now
  pub is_releasing : locks.releasing thread ≡ Some lock
  pub last_durable : old.next thread ≤ suc (old.durable thread)
  pub releasing_self : after.releasing thread ≡ None
  pub releasing_other : (other : ℕ) → (other ≡ thread → ⊥) → after.releasing other ≡ locks.releasing other
  pub holder_self : after.holder lock ≡ None
  pub holder_other : (other : ℕ) → (other ≡ lock → ⊥) → after.holder other ≡ locks.holder other
  pub count_self : after.count lock ≡ suc (locks.count lock)
  pub count_other : (other : ℕ) → (other ≡ lock → ⊥) → after.count other ≡ locks.count other

module _ {old new : Entries} {now thread lock : ℕ} {locks after : Locks}
    (step : ReleaseLocks old new now thread lock locks after) (holds : LocksHold old locks) where
  pub count-grows : (other : ℕ) → locks.count other ≤ after.count other
  count-grows other =
      by_cases
      (ℕ_discrete other lock)
      (λ same. rw (same, step.count_self) (omega arith))
      (λ differs. rw (step.count_other other differs) (omega arith))

  -- a thread that releases a lock releases this one only if it is this thread
  same-thread : {other : ℕ} → locks.holder lock ≡ Some other → other ≡ thread
  same-thread is_held =
      let held = holds.held_while step.is_releasing in
      cc

  -- another thread's RELEASE that waits is of another lock
  waits-other : {other number another count : ℕ} → (another ≡ lock → ⊥) → Waits old locks other number another count →
      Waits new after other number another count
  waits-other {other} {number} {another} {count} differs waits =
      let elsewhere : other ≡ thread → ⊥ = λ same.
      let mine = step.is_releasing in
      let theirs = rw same at waits.is_releasing in
      differs (cc) in
      record {
        is_count = waits.is_count ∙ sym (step.count_other another differs);
        is_held = step.holder_other another differs ∙ waits.is_held;
        is_releasing = step.releasing_other other elsewhere ∙ waits.is_releasing;
        is_last = waits.is_last ∙ sym (step.keeps.next_same other);
      }

  -- a lock that a thread still releases is another one
  still-releasing : {other another : ℕ} → after.releasing other ≡ Some another →
      (locks.releasing other ≡ Some another) × (another ≡ lock → ⊥)
  still-releasing {other} {another} is_releasing =
      by_cases
      (ℕ_discrete other thread)
      (λ same. never-both step.releasing_self (rw same at is_releasing))
      (λ differs.
      let before = sym (step.releasing_other other differs) ∙ is_releasing in
      (before, λ same. differs (same-thread (rw same at (holds.held_while before)))))

  pub locks-release : LocksHold new after
  locks-release = record {
    state = λ {thread = other} {number} {lock = another} {count} release.
        ⊎_elim
        (λ taken. let grew = count-grows another in inl (omega arith))
        (λ waits.
        by_cases
        (ℕ_discrete another lock)
        (λ same.
        let equal = waits.is_count in
        let more = step.count_self in
        let the_same : locks.count another ≡ locks.count lock = ap locks.count same in
        inl (rw (same, more) (omega arith)))
        (λ differs. inr (waits-other differs waits)))
        (holds.state (kept-is step.keeps release));
    durable = λ {thread = other} {number} {lock = another} {count} release taken.
        let grew = step.keeps.grows.durable_grows other in
        let before = kept-is step.keeps release in
        ⊎_elim
        (λ was-taken. let was-durable = holds.durable before was-taken in omega arith)
        (λ waits.
        by_cases
        (ℕ_discrete another lock)
        (λ same.
        let mine = same-thread (rw same at waits.is_held) in
        let is_last : suc number ≡ old.next thread = rw mine at waits.is_last in
        let bound = step.last_durable in
        let grown : old.durable thread ≤ new.durable thread = rw mine at grew in
        rw mine (omega arith))
        (λ differs.
        let equal = waits.is_count in
        let unchanged = step.count_other another differs in
        absurd (omega arith)))
        (holds.state before);
    acquire_count = λ {thread = other} {number} {lock = another} acquire.
        let bound = holds.acquire_count (kept-is step.keeps acquire) in
        let grew = count-grows another in
        omega arith;
    in_time = λ {thread = first} {number} {other} {later} release acquire smaller.
        let one = kept-is step.keeps release in
        let two = kept-is step.keeps acquire in
        rw (step.keeps.grows.time_same first number one.made, step.keeps.grows.time_same other later two.made)
        (holds.in_time one two smaller);
    held = λ {thread = other} {lock = another} is_held.
        by_cases
        (ℕ_discrete another lock)
        (λ same. never-both step.holder_self (rw same at is_held))
        (λ differs.
        let found = holds.held (sym (step.holder_other another differs) ∙ is_held) in
        (found.0, rw (step.count_other another differs) (still-is step.keeps.grows found.1)));
    held_while = λ {thread = other} {lock = another} is_releasing.
        let before = still-releasing is_releasing in
        step.holder_other another before.1 ∙ holds.held_while before.0;
    last_while = λ {thread = other} {lock = another} is_releasing.
        let before = still-releasing is_releasing in
        let found = holds.last_while before.0 in (
          found.0,
          found.1 ∙ sym (step.keeps.next_same other),
          rw (step.count_other another before.1) (still-is step.keeps.grows found.2),
        );
    unique = λ one another. holds.unique (kept-is step.keeps one) (kept-is step.keeps another);
    paired = λ release.
        let found = holds.paired (kept-is step.keeps release) in
        (found.0, still-is step.keeps.grows found.1, found.2);
  }

-- the last entry of a pruned region is a RELEASE, and one more of that lock is pruned
pub record EndsInRelease (old : Entries) (thread last lock count : ℕ) (locks after : Locks) : Type 0 where
  pub release : IsReleaseOf old thread last lock count
  pub pruned_self : after.pruned lock ≡ suc (locks.pruned lock)
  pub pruned_other : (other : ℕ) → (other ≡ lock → ⊥) → after.pruned other ≡ locks.pruned other

-- what a PRUNE of a region of so many entries asks and does
pub record PruneLocks (old new : Entries) (now thread size : ℕ) (locks after : Locks) : Type 0 where
  pub keeps : Keeps old new now
  pub same : SameLocks locks after
  pub not_empty : 1 ≤ size
  pub head_more : new.head thread ≡ old.head thread + size
  pub head_other : (other : ℕ) → (other ≡ thread → ⊥) → new.head other ≡ old.head other
  -- the region has an ACQUIRE only as its first entry, and 16 tested that one
  pub acquire_first : {number lock count : ℕ} → old.head thread ≤ number → number < old.head thread + size →
      IsAcquireOf old thread number lock count → number ≡ old.head thread
  pub awaited : {lock count : ℕ} → IsAcquireOf old thread (old.head thread) lock count → count ≤ locks.pruned lock
  -- the region is finished
  pub finished : (old.head thread + size < old.next thread) ⊎ (locks.releasing thread ≡ None)
  pub pruned_cases : ((lock count : ℕ) × EndsInRelease old thread (old.head thread + size - 1) lock count locks after) ⊎
      ((lock : ℕ) → after.pruned lock ≡ locks.pruned lock)

module _ {old new : Entries} {now thread size : ℕ} {locks after : Locks}
    (step : PruneLocks old new now thread size locks after) (holds : LocksHold old locks)
    (prunes : PrunesHold old locks) where
  -- the region's last RELEASE is the next one of its lock to be pruned, and its step was taken
  next-pruned : {lock count : ℕ} → IsReleaseOf old thread (old.head thread + size - 1) lock count →
      (count ≡ locks.pruned lock) × (count < locks.count lock)
  next-pruned {lock} {count} release =
      let some-entry = step.not_empty in
      let under : count ≤ locks.pruned lock =
      (let found = holds.paired release in
      by_cases
      (dec_lt found.0 (old.head thread))
      (λ before. prunes.acquire_pruned found.1 before)
      (λ not_before.
      let first = step.acquire_first (omega (arith, not_before)) (omega (arith, found.2)) found.1 in
      step.awaited (rw first at found.1))) in
      let taken : count < locks.count lock =
      ⊎_elim
      (λ was. was)
      (λ waits.
      ⊎_elim
      (λ more. let is_last = waits.is_last in absurd (omega arith))
      (λ nothing. never-both nothing waits.is_releasing)
      step.finished)
      (holds.state release) in
      by_cases
      (dec_lt count (locks.pruned lock))
      (λ less. let gone = prunes.release_pruned release less in absurd (omega arith))
      (λ not_less. (omega (arith, not_less), taken))

  heads-grow : (other : ℕ) → old.head other ≤ new.head other
  heads-grow other = step.keeps.grows.head_grows other

  pruned-grows : (lock : ℕ) → locks.pruned lock ≤ after.pruned lock
  pruned-grows lock =
      ⊎_elim
      (λ ends.
      by_cases
      (ℕ_discrete lock ends.0)
      (λ same. rw (same, ends.2.pruned_self) (omega arith))
      (λ differs. rw (ends.2.pruned_other lock differs) (omega arith)))
      (λ same. rw (same lock) (omega arith))
      step.pruned_cases

  pub prunes-prune : PrunesHold new after
  prunes-prune = record {
    acquire_pruned = λ {thread = other} {number} {lock} {count} acquire is_pruned.
        let before = kept-is step.keeps acquire in
        let grew = pruned-grows lock in
        let was : count ≤ locks.pruned lock =
        by_cases
        (dec_lt number (old.head other))
        (λ already. prunes.acquire_pruned before already)
        (λ not_yet.
        by_cases
        (ℕ_discrete other thread)
        (λ same.
        let mine : IsAcquireOf old thread number lock count = rw same at before in
        let late : old.head other ≤ number = omega (arith, not_yet) in
        let early : number < old.head thread + size = rw step.head_more at (rw same at is_pruned) in
        let first = step.acquire_first (rw same at late) early mine in
        step.awaited (rw first at mine))
        (λ differs. let unchanged = step.head_other other differs in absurd (omega (arith, not_yet)))) in
        omega arith;
    release_pruned = λ {thread = other} {number} {lock} {count} release is_pruned.
        let before = kept-is step.keeps release in
        let grew = heads-grow other in
        ⊎_elim
        (λ ends.
        by_cases
        (ℕ_discrete lock ends.0)
        (λ same.
        let mine = ends.2.release in
        let fresh = next-pruned mine in
        let more : count < suc (locks.pruned ends.0) = rw ends.2.pruned_self at (rw same at is_pruned) in
        by_cases
        (dec_lt count (locks.pruned ends.0))
        (λ already. let gone = prunes.release_pruned (rw same at before) already in omega arith)
        (λ not_yet.
        let equal : count ≡ ends.1 = omega (arith, not_yet) in
        let one = holds.unique (rw equal at (rw same at before)) mine in
        let some-entry = step.not_empty in
        let moved = step.head_more in
        let place = one.1 in
        rw one.0 (omega arith)))
        (λ differs. let gone = prunes.release_pruned before (rw (ends.2.pruned_other lock differs) at is_pruned) in omega arith))
        (λ unchanged. let gone = prunes.release_pruned before (rw (unchanged lock) at is_pruned) in omega arith)
        step.pruned_cases;
    pruned_count = λ lock.
        let bound = prunes.pruned_count lock in
        rw (step.same.count_same lock)
        (⊎_elim
        (λ ends.
        by_cases
        (ℕ_discrete lock ends.0)
        (λ same.
        let fresh = next-pruned ends.2.release in
        let more = ends.2.pruned_self in
        rw same (omega arith))
        (λ differs. rw (ends.2.pruned_other lock differs) bound))
        (λ unchanged. rw (unchanged lock) bound)
        step.pruned_cases);
  }
