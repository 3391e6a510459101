-- A log that a list of steps may begin with: no entry is live, and no persisted slot holds an LSN from the head on, whatever else the
-- slots hold.
use Rattle.std.specs.Prelude.{None}
use Prim.Native.Nat.{ℕ, suc, ◌+◌, ◌≤◌}
use mathlib.Core.Bool.{false, true≢false}
use mathlib.Core.Path.{◌≡◌, refl, sym, ap, ◌∙◌}
use native.Mathlib.Omega.{arith}
use borrow.Author.Tests.{ne_eqb}
use lib.Dec.{eqb}
use lib.ListN.{length, get_or-replicate}
use Rattle.ring.specs.Ring.{slot_count, last_lsn, slot_of}
use Rattle.tail.specs.Tail.{fresh_tail}
use Rattle.entry.specs.Words.{zeros, words_of}
use Rattle.thread_log.specs.Entries.{fresh_log}
use Rattle.reader.specs.Stretch.{holds}
use Rattle.entry.specs.declared.Entry.{Entry}
use Rattle.thread_log.specs.declared.Log.{Log}
use Rattle.entry.specs.declared.Payload.{Payload}
use Rattle.thread_log.proofs.LogInvariant.{LogHolds}
use Rattle.thread_log.proofs.SlotLaws.{holds-lsn}
use Rattle.thread_log.proofs.SlotsHold.{slot-below}

pub record Idle (log : Log) : Type 0 where
  pub cached_slots : length log.cached ≡ slot_count
  pub persisted_slots : length log.persisted ≡ slot_count
  pub head_least : 1 ≤ log.head.0
  pub head_most : log.head.0 ≤ last_lsn + 1
  pub next_is : log.tail.next.0 ≡ log.head.0
  pub durable_is : suc log.tail.durable.0 ≡ log.head.0
  pub flushed_is : suc log.tail.flushed.0 ≡ log.head.0
  pub releases_nothing : log.tail.releasing ≡ None
  pub holds_none : (number : ℕ) → log.head.0 ≤ number → holds (words_of log.persisted) number ≡ false

-- an idle log keeps the invariant of a log, whatever its thread's entries said before
pub idle_holds : (log : Log) (says : ℕ → Payload) → Idle log → LogHolds log says
idle_holds log says idle = record {
  cached_slots = idle.cached_slots;
  persisted_slots = idle.persisted_slots;
  head_positive = idle.head_least;
  head_next = omega (arith, idle.next_is);
  next_bound = omega (arith, idle.next_is, idle.head_most);
  window = omega (arith, idle.next_is);
  durable_flushed = omega (arith, idle.durable_is, idle.flushed_is);
  flushed_next = omega (arith, idle.flushed_is, idle.next_is);
  head_durable = omega (arith, idle.durable_is);
  cached_is = λ number from to. absurd (omega (arith, idle.next_is));
  found_is = λ number from to held. absurd (true≢false (sym held ∙ idle.holds_none number from));
  durable_is = λ number from to. absurd (omega (arith, idle.durable_is));
}

-- the start call's log is idle: LSNs begin at 1, and four zeros hold none
pub fresh_idle : Idle fresh_log
unfolding fresh_log fresh_tail
fresh_idle = record {
  cached_slots = refl;
  persisted_slots = refl;
  head_least = omega arith;
  head_most = omega arith;
  next_is = refl;
  durable_is = refl;
  flushed_is = refl;
  releases_nothing = refl;
  holds_none = λ number from.
      let blank = get_or-replicate slot_count (slot_of number) zeros zeros (slot-below number) in
      holds-lsn fresh_log.persisted number
      ∙ (ap (λ (slot : Entry). eqb slot.lsn.0 number) blank ∙ ne_eqb 0 number (omega arith));
}
