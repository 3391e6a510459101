-- The invariant of an undo log: the log's own, with what each entry's event is written as.
use Prim.Native.Nat.{ℕ, ◌+◌, ◌≤◌}
use mathlib.Core.Bool.{true, cond}
use mathlib.Core.Path.{◌≡◌, refl, ap}
use mathlib.Core.Logic.{◌≢◌}
use native.Mathlib.Omega.{arith}
use borrow.Author.Tests.{eq-eqb, ne_eqb}
use lib.Dec.{eqb}
use Rattle.answer.proofs.RefusalLaws.{AllFail}
use Rattle.tail.specs.Tail.{released_tail}
use Rattle.thread_log.specs.Entries.{is_live_slot, append_tests, flush_log_of, fence_log_of, evict_words_of, drop_of}
use Rattle.thread_log.specs.declared.Log.{Log}
use Rattle.entry.specs.declared.Payload.{Payload}
use Rattle.thread_log.proofs.LogInvariant as Slots
use Rattle.thread_log.proofs.LogInvariant.{LogHolds, append-holds, retail-holds}
use Rattle.event.specs.Events.{payload_of, closes_of}
use Rattle.undo.specs.Entering.{enter_of, end_release_of}
use Rattle.event.specs.declared.Event.{Event}

-- `events number` is what the thread's entry of that LSN says, pruned entries included
abbrev pub UndoHolds : Log → (ℕ → Event) → Type 0
UndoHolds log events = LogHolds log (λ number. payload_of (events number))

-- the entries ever made, with one more
unfoldable pub with_event : (ℕ → Event) → ℕ → Event → ℕ → Event
with_event events number event other = cond (eqb other number) event (events other)

pub with_event_here : (events : ℕ → Event) (number : ℕ) (event : Event) → with_event events number event number ≡ event
unfolding with_event
with_event_here events number event = rw (eq-eqb number number refl)

pub with_event-other : (events : ℕ → Event) (number : ℕ) (event : Event) (other : ℕ) → other ≢ number
    → with_event events number event other ≡ events other
unfolding with_event
with_event-other events number event other differs = rw (ne_eqb other number differs)

module _ (log : Log) (events : ℕ → Event) (inv : UndoHolds log events) where
  abbrev says : ℕ → Payload
  says number = payload_of (events number)

  pub enter-holds : (event : Event) → AllFail (append_tests log)
      → UndoHolds (enter_of log event) (with_event events log.tail.next.0 event)
  enter-holds event fails =
      let next = log.tail.next.0 in
      append-holds
      log
      says
      inv
      (payload_of event)
      (closes_of event)
      (λ number. payload_of (with_event events next event number))
      fails
      (ap payload_of (with_event_here events next event))
      (λ number below. ap payload_of (with_event-other events next event number (omega arith)))

  pub release-holds : UndoHolds (end_release_of log) events
  unfolding end_release_of released_tail
  release-holds = retail-holds log says inv (released_tail log.tail) refl refl refl

  pub flush-holds : UndoHolds (flush_log_of log) events
  flush-holds = Slots.flush-holds log says inv

  pub fence-holds : UndoHolds (fence_log_of log) events
  fence-holds = Slots.fence-holds log says inv

  -- EVICTWORDS, and EVICTLOG with all words
  pub tear-holds : (slot count : ℕ) → is_live_slot log slot ≡ true → UndoHolds (evict_words_of log slot count) events
  tear-holds = Slots.tear-holds log says inv

  -- PRUNE of durable entries
  pub prune-holds : (count : ℕ) → log.head.0 + count ≤ log.tail.next.0 → log.head.0 + count ≤ log.tail.durable.0 + 1
      → UndoHolds (drop_of log count) events
  prune-holds = Slots.drop-holds log says inv
