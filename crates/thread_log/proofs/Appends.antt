-- What an append leaves of the thread's record decides what it leaves of the log.
use Rattle.std.specs.Prelude.{Option, Ok, Err}
use Prim.Native.Nat.{ℕ}
use mathlib.Core.Path.{◌≡◌, sym}
use lib.ListN.{set}
use Rattle.answer.specs.declared.Refusal.{Refusal}
use Rattle.ring.specs.Ring.{slot_of}
use Rattle.append.specs.Append.{Grown, grow_of}
use Rattle.append.proofs.Room.{when-accepted, when-refused}
use Rattle.entry.specs.Words.{entry_of}
use Rattle.thread_log.specs.Entries.{with_tail, append_of, appended_of}
use Rattle.thread_log.specs.declared.Log.{Log}
use Rattle.entry.specs.declared.Payload.{Payload}

module _ (log : Log) (payload : Payload) (closes : Option ℕ) where
  -- the log with the entry, and with the record that the append left
  abbrev pub with_entry : Grown → Log
  with_entry grown = record {
    cached = set log.cached (slot_of log.tail.next.0) (entry_of log.tail.next payload);
    persisted = log.persisted;
    head = log.head;
    tail = grown.tail;
  }

  module _ (grown : Grown) (is : grown ≡ grow_of log.tail log.head.0 closes) where
    pub append-refused : {refusal : Refusal} → grown.answer ≡ Err refusal
        → record { answer = Err refusal; log = with_tail log grown.tail } ≡ appended_of log payload closes
    unfolding appended_of
    append-refused refused =
        let found = when-refused _ _ log.tail log.head.0 closes is refused in
        rw found.0 (sym found.1)

    pub append-accepted : {given : ℕ} → grown.answer ≡ Ok given
        → record { answer = Ok given; log = with_entry grown } ≡ appended_of log payload closes
    unfolding appended_of append_of
    append-accepted accepted =
        let (given_is, tail_is, done) = when-accepted (λ answer. record { answer = answer; log = log })
        (record { answer = Ok log.tail.next.0; log = append_of log payload closes }) log.tail log.head.0 closes is accepted in
        rw (given_is, tail_is) (sym done)
