-- The machine's logs as the entries that the concerns speak of, and what each change of a log is in that view.
use Prim.Native.Nat.{ℕ, suc, ◌≤◌, ◌<◌}
use native.Mathlib.Decide.{ℕ_discrete}
use native.Mathlib.Omega.{arith}
use mathlib.Core.Path.{◌≡◌, refl, sym, ap, ◌∙◌, subst}
use mathlib.Core.Bool.{Bool, true, cond}
use mathlib.Core.List.{List}
use mathlib.Core.Logic.{by_cases}
use lib.ListN.{length, get_or, set}
use lib.Seq.{get_or-set_same, get_or-set_other}
use lib.Dec.{eqb}
use borrow.Author.Tests.{eq-eqb, ne_eqb}
use Rattle.event.specs.Events.{payload_of, closes_of}
use Rattle.undo.specs.Entering.{enter_of}
use Rattle.event.specs.declared.Event.{Event}
use Rattle.thread_log.specs.declared.Log.{Log}
use Rattle.undo.proofs.UndoInvariant.{with_event, with_event_here, with_event-other}
use Rattle.thread_log.proofs.LogNumbers.{append_numbers}
use Rattle.machine.specs.Holds.{no_log}
use Rattle.atomicity.proofs.Logged.{Entries, Keeps, Appends}

-- the function with another value at one number
abbrev pub set_at : {A : Type 0} → (ℕ → A) → ℕ → A → ℕ → A
set_at function number value other = cond (eqb other number) value (function other)

pub set_at_here : {A : Type 0} (function : ℕ → A) (number : ℕ) (value : A) → set_at function number value number ≡ value
set_at_here function number value = rw (eq-eqb number number refl)

pub set_at-other : {A : Type 0} (function : ℕ → A) (number : ℕ) (value : A) (other : ℕ) → (other ≡ number → ⊥) →
    set_at function number value other ≡ function other
set_at-other function number value other differs = rw (ne_eqb other number differs)

-- a thread's log
abbrev pub log_at : List Log → ℕ → Log
log_at logs thread = get_or logs thread no_log

-- the logs' numbers, beside what the entries said, when they were made and by which steps
abbrev pub view_of : (ℕ → ℕ) → List Log → (ℕ → ℕ → Event) → (ℕ → ℕ → ℕ) → (ℕ → Bool) → Entries
view_of before logs event time made = record {
  event = event;
  time = time;
  made = made;
  before = before;
  next = λ thread. (log_at logs thread).tail.next.0;
  head = λ thread. (log_at logs thread).head.0;
  durable = λ thread. (log_at logs thread).tail.durable.0;
}

pub log_same : (logs : List Log) (thread : ℕ) (log : Log) → thread < length logs → log_at (set logs thread log) thread ≡ log
log_same logs thread log in_range = get_or-set_same logs thread log no_log in_range

pub log_other : (logs : List Log) (thread other : ℕ) (log : Log) → (other ≡ thread → ⊥) →
    log_at (set logs thread log) other ≡ log_at logs other
log_other logs thread other log differs = get_or-set_other logs thread other log no_log differs

-- what holds of the new log, and of every other one, holds of each
pub by_log : (P : ℕ → Log → Type 0) (logs : List Log) (thread : ℕ) (log : Log) → thread < length logs → P thread log →
    ((other : ℕ) → (other ≡ thread → ⊥) → P other (log_at logs other)) → (other : ℕ) →
    P other (log_at (set logs thread log) other)
by_log P logs thread log in_range self others other =
    by_cases
    (ℕ_discrete other thread)
    (λ same. subst (λ (t : ℕ). P t (log_at (set logs thread log) t)) (sym same) (rw (log_same logs thread log in_range) self))
    (λ differs. rw (log_other logs thread other log differs) (others other differs))

-- a change of a log that makes no entry
pub keep_view : (before : ℕ → ℕ) (logs : List Log) (event : ℕ → ℕ → Event) (time : ℕ → ℕ → ℕ) (made : ℕ → Bool)
    (now thread : ℕ) (log : Log) → thread < length logs → log.tail.next.0 ≡ (log_at logs thread).tail.next.0 →
    (log_at logs thread).head.0 ≤ log.head.0 → (log_at logs thread).tail.durable.0 ≤ log.tail.durable.0 →
    Keeps (view_of before logs event time made) (view_of before (set logs thread log) event time made) now
keep_view before logs event time made now thread log in_range same_next head_grows durable_grows =
    let next-kept =
    by_log (λ other log. log.tail.next.0 ≡ (log_at logs other).tail.next.0) logs thread log in_range same_next (λ other differs. refl) in
    record {
      grows = record {
        still = λ other number made. record { since = made.since; below = rw (next-kept other) made.below };
        says_same = λ other number made. refl;
        time_same = λ other number made. refl;
        made_same = λ place differs. refl;
        before_same = refl;
        head_grows =
            by_log (λ other log. (log_at logs other).head.0 ≤ log.head.0) logs thread log in_range head_grows (λ other differs. omega arith);
        durable_grows =
            by_log (λ other log. (log_at logs other).tail.durable.0 ≤ log.tail.durable.0) logs thread log in_range
            durable_grows (λ other differs. omega arith);
      };
      next_same = next-kept;
      made_still = refl;
    }

-- nothing of the logs changes
pub same_view : (entries : Entries) (now : ℕ) → Keeps entries entries now
same_view entries now = record {
  grows = record {
    still = λ other number made. made;
    says_same = λ other number made. refl;
    time_same = λ other number made. refl;
    made_same = λ place differs. refl;
    before_same = refl;
    head_grows = λ other. omega arith;
    durable_grows = λ other. omega arith;
  };
  next_same = λ other. refl;
  made_still = refl;
}

-- what the entries said and when they were made, with one more at a thread's next LSN
abbrev pub events_then : List Log → (ℕ → ℕ → Event) → ℕ → Event → ℕ → ℕ → Event
events_then logs event thread said = set_at event thread (with_event (event thread) (log_at logs thread).tail.next.0 said)

abbrev pub times_then : List Log → (ℕ → ℕ → ℕ) → ℕ → ℕ → ℕ → ℕ → ℕ
times_then logs time thread now = set_at time thread (set_at (time thread) (log_at logs thread).tail.next.0 now)

module _ (before : ℕ → ℕ) (logs : List Log) (event : ℕ → ℕ → Event) (time : ℕ → ℕ → ℕ) (made : ℕ → Bool)
    (now thread : ℕ) (said : Event) (in_range : thread < length logs) where
  at_self : events_then logs event thread said thread ≡ with_event (event thread) (log_at logs thread).tail.next.0 said
  at_self = set_at_here event thread (with_event (event thread) (log_at logs thread).tail.next.0 said)

  time-self : times_then logs time thread now thread ≡ set_at (time thread) (log_at logs thread).tail.next.0 now
  time-self = set_at_here time thread (set_at (time thread) (log_at logs thread).tail.next.0 now)

  -- an older entry says what it said
  older-says : (other number : ℕ) → number < (log_at logs other).tail.next.0 →
      events_then logs event thread said other number ≡ event other number
  older-says other number older =
      by_cases
      (ℕ_discrete other thread)
      (λ same.
      let earlier : number < (log_at logs thread).tail.next.0 = rw same at older in
      let differs : number ≡ (log_at logs thread).tail.next.0 → ⊥ = λ equal. omega arith in
      rw same (ap (λ (f : ℕ → Event). f number) at_self ∙
      with_event-other (event thread) (log_at logs thread).tail.next.0 said number differs))
      (λ differs. ap (λ (f : ℕ → Event). f number)
      (set_at-other event thread (with_event (event thread) (log_at logs thread).tail.next.0 said) other differs))

  older-time : (other number : ℕ) → number < (log_at logs other).tail.next.0 →
      times_then logs time thread now other number ≡ time other number
  older-time other number older =
      by_cases
      (ℕ_discrete other thread)
      (λ same.
      let earlier : number < (log_at logs thread).tail.next.0 = rw same at older in
      let differs : number ≡ (log_at logs thread).tail.next.0 → ⊥ = λ equal. omega arith in
      rw same (ap (λ (f : ℕ → ℕ). f number) time-self ∙ set_at-other (time thread) (log_at logs thread).tail.next.0 now number differs))
      (λ differs. ap (λ (f : ℕ → ℕ). f number)
      (set_at-other time thread (set_at (time thread) (log_at logs thread).tail.next.0 now) other differs))

  -- an append is one entry more
  pub append-view : before thread < (log_at logs thread).tail.next.0 →
      Appends (view_of before logs event time made)
      (view_of before (set logs thread (enter_of (log_at logs thread) said)) (events_then logs event thread said)
      (times_then logs time thread now) (set_at made now true))
      now thread said
  append-view since =
      let log = enter_of (log_at logs thread) said in
      let numbers = append_numbers (log_at logs thread) (payload_of said) (closes_of said) in
      let here = log_same logs thread log in_range in
      let next_here : (log_at (set logs thread log) thread).tail.next.0 ≡ suc (log_at logs thread).tail.next.0 =
      rw here (numbers.next_is ∙ omega arith) in
      let next_grows =
      by_log (λ other log. (log_at logs other).tail.next.0 ≤ log.tail.next.0) logs thread log in_range
      (rw numbers.next_is (omega arith)) (λ other differs. omega arith) in
      let head-same =
      by_log (λ other log. log.head.0 ≡ (log_at logs other).head.0) logs thread log in_range numbers.head_is (λ other differs. refl) in
      let durable-same =
      by_log (λ other log. log.tail.durable.0 ≡ (log_at logs other).tail.durable.0) logs thread log in_range
      numbers.durable_is (λ other differs. refl) in
      record {
        grows = record {
          still = λ other number made.
              let grew = next_grows other in let below = made.below in record { since = made.since; below = omega arith };
          says_same = λ other number made. older-says other number made.below;
          time_same = λ other number made. older-time other number made.below;
          made_same = set_at-other made now true;
          before_same = refl;
          head_grows = λ other. let same = head-same other in omega arith;
          durable_grows = λ other. let same = durable-same other in omega arith;
        };
        next_more = next_here;
        next_other = λ other differs. ap (λ (log : Log). log.tail.next.0) (log_other logs thread other log differs);
        says_new =
            ap (λ (f : ℕ → Event). f (log_at logs thread).tail.next.0) at_self ∙
            with_event_here (event thread) (log_at logs thread).tail.next.0 said;
        time_new =
            ap (λ (f : ℕ → ℕ). f (log_at logs thread).tail.next.0) time-self ∙
            set_at_here (time thread) (log_at logs thread).tail.next.0 now;
        made_new = set_at_here made now true;
        next_since = since;
        head_same = head-same;
        durable_same = durable-same;
      }
