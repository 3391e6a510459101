-- The invariant of one thread's log, beside the entries that the thread ever made, and that every change of a log keeps it. It is the
-- invariant of slots at four words an entry, the last of which tells the LSN.
use Rattle.std.specs.Prelude.{Option}
use Prim.Native.Nat.{ℕ, ◌+◌, ◌-◌, ◌<◌, ◌≤◌}
use mathlib.Core.Bool.{true}
use mathlib.Core.Path.{◌≡◌, refl, ap, sym, ◌∙◌}
use mathlib.Core.List.{List, [], ◌∷◌}
use native.Mathlib.Omega.{arith}
use borrow.Author.Tests.{eq-eqb, eqb-true, leb-false}
use lib.ListN.{length, get_or, length-set}
use lib.Seq.{get_or-set_same, get_or-set_other}
use Rattle.sizes.specs.Sizes.{entry_words, lsn_word}
use Rattle.answer.proofs.RefusalLaws.{AllFail}
use Rattle.ring.specs.Ring.{slot_count, last_lsn, lsn, slot_of}
use Rattle.tail.specs.Tail.{unfenced, flushed_tail, fenced_tail}
use Rattle.append.specs.Append.{grown_tail, room_tests}
use Rattle.tail.specs.declared.Tail.{Tail}
use Rattle.entry.specs.Words.{entry_of, zeros, slot_words, words_of}
use Rattle.thread_log.specs.Entries.{entry_at, kept_at, with_tail, is_live_slot, append_tests, append_of}
use Rattle.thread_log.specs.Entries.{flush_log_of, fence_log_of, evict_words_of, drop_of}
use Rattle.reader.specs.Stretch.{holds}
use Rattle.entry.specs.declared.Entry.{Entry}
use Rattle.thread_log.specs.declared.Log.{Log}
use Rattle.entry.specs.declared.Payload.{Payload}
use Rattle.thread_log.proofs.SlotLaws.{live_slot, words_tell, holds-lsn, torn_words, length_persist_words, length_persist_from}
use Rattle.thread_log.proofs.SlotLaws.{persist_here, persist_other, run_here, run_elsewhere}
use Rattle.thread_log.proofs.SlotsHold as Slots
use Rattle.thread_log.proofs.SlotsHold.{Written, Marks, SlotsHold, slot-below}

-- the invariant of a log, where `says number` is what the thread's entry of that LSN says, dropped entries included
pub record LogHolds (log : Log) (says : ℕ → Payload) : Type 0 where
  pub cached_slots : length log.cached ≡ slot_count
  pub persisted_slots : length log.persisted ≡ slot_count
  pub head_positive : 1 ≤ log.head.0
  pub head_next : log.head.0 ≤ log.tail.next.0
  pub next_bound : log.tail.next.0 ≤ last_lsn + 1
  pub window : log.tail.next.0 ≤ log.head.0 + slot_count
  pub durable_flushed : log.tail.durable.0 ≤ log.tail.flushed.0
  pub flushed_next : log.tail.flushed.0 + 1 ≤ log.tail.next.0
  pub head_durable : log.head.0 ≤ log.tail.durable.0 + 1
  pub cached_is : (number : ℕ) → log.head.0 ≤ number → number < log.tail.next.0
      → entry_at log number ≡ entry_of (lsn number) (says number)
  pub found_is : (number : ℕ) → log.head.0 ≤ number → number < log.head.0 + slot_count → holds (words_of log.persisted) number ≡ true
      → (number < log.tail.next.0) × (kept_at log number ≡ entry_of (lsn number) (says number))
  pub durable_is : (number : ℕ) → log.head.0 ≤ number → number ≤ log.tail.durable.0
      → kept_at log number ≡ entry_of (lsn number) (says number)

-- the last word of an entry tells its LSN
abbrev tag_of : ℕ → List ℕ
tag_of number = number ∷ []

lsn-written : Written lsn_word entry_words tag_of
lsn-written = record { said_in = omega arith; tells = λ one other same. ap (λ words. get_or words 0 0) same }

abbrev marks_of : Log → Marks
marks_of log = record {
  head = log.head.0;
  next = log.tail.next.0;
  durable = log.tail.durable.0;
  flushed = log.tail.flushed.0;
}

-- the words in each of the slots
abbrev in_slots : List Entry → ℕ → List ℕ
in_slots slots slot = slot_words (get_or slots slot zeros)

-- the log's invariant in words
abbrev InWords : Log → (ℕ → Payload) → Type 0
InWords log says =
    SlotsHold lsn_word entry_words tag_of (λ number. slot_words (entry_of (lsn number) (says number)))
    (in_slots log.cached) (in_slots log.persisted) (marks_of log)

in_words : (log : Log) (says : ℕ → Payload) → LogHolds log says → InWords log says
in_words log says inv = record {
  ordered = record {
    head_positive = inv.head_positive;
    head_next = inv.head_next;
    next_bound = inv.next_bound;
    window = inv.window;
    durable_flushed = inv.durable_flushed;
    flushed_next = inv.flushed_next;
    head_durable = inv.head_durable;
  };
  entries = λ number from to. record { wide = refl; tagged = refl };
  wide = λ slot inside. refl;
  cached_is = λ number from to. ap slot_words (inv.cached_is number from to);
  found_is = λ number from to tells.
      let held = holds-lsn log.persisted number ∙ eq-eqb _ number (ap (λ words. get_or words 0 0) tells) in
      let found = inv.found_is number from to held in
      (found.0, ap slot_words found.1);
  durable_is = λ number from to. ap slot_words (inv.durable_is number from to);
}

from-words : (log : Log) (says : ℕ → Payload) → length log.cached ≡ slot_count → length log.persisted ≡ slot_count → InWords log says
    → LogHolds log says
from-words log says cached_slots persisted_slots inv = record {
  cached_slots = cached_slots;
  persisted_slots = persisted_slots;
  head_positive = inv.ordered.head_positive;
  head_next = inv.ordered.head_next;
  next_bound = inv.ordered.next_bound;
  window = inv.ordered.window;
  durable_flushed = inv.ordered.durable_flushed;
  flushed_next = inv.ordered.flushed_next;
  head_durable = inv.ordered.head_durable;
  cached_is = λ number from to. words_tell _ _ (inv.cached_is number from to);
  found_is = λ number from to held.
      let tells = ap tag_of (eqb-true _ number (sym (holds-lsn log.persisted number) ∙ held)) in
      let found = inv.found_is number from to tells in
      (found.0, words_tell _ _ found.1);
  durable_is = λ number from to. words_tell _ _ (inv.durable_is number from to);
}

-- the log has room for one entry more
pub append_room : (log : Log) → AllFail (append_tests log)
    → (log.tail.next.0 < last_lsn + 1) × (log.tail.next.0 - log.head.0 < slot_count)
unfolding room_tests
append_room log fails =
    (leb-false (last_lsn + 1) log.tail.next.0 fails.0, leb-false slot_count (log.tail.next.0 - log.head.0) fails.1.0)

module _ (log : Log) (says : ℕ → Payload) (inv : LogHolds log says) where
  -- a log with one entry more, which says this, keeps the invariant
  pub append-holds : (payload : Payload) (closes : Option ℕ) (then : ℕ → Payload) → AllFail (append_tests log)
      → then log.tail.next.0 ≡ payload → ((number : ℕ) → number < log.tail.next.0 → then number ≡ says number)
      → LogHolds (append_of log payload closes) then
  unfolding append_of grown_tail
  append-holds payload closes then fails new earlier =
      let next = log.tail.next.0 in
      let room = append_room log fails in
      let made = entry_of log.tail.next payload in
      from-words
      (append_of log payload closes)
      then
      (length-set log.cached (slot_of next) made ∙ inv.cached_slots)
      inv.persisted_slots
      (Slots.append-holds
      lsn-written
      (in_words log says inv)
      (record {
        here =
            ap slot_words
            (get_or-set_same log.cached (slot_of next) made zeros (omega (arith, inv.cached_slots, slot-below next)) ∙
            ap (entry_of (lsn next)) (sym new));
        elsewhere = λ other differs. ap slot_words (get_or-set_other log.cached (slot_of next) other made zeros differs);
        earlier = λ number below. ap (λ payload. slot_words (entry_of (lsn number) payload)) (earlier number below);
      })
      (record { wide = refl; tagged = refl })
      (omega arith)
      (omega (arith, inv.head_next)))

  -- a log with another record of its thread that has the same numbers keeps the invariant
  pub retail-holds : (tail : Tail) → tail.next ≡ log.tail.next → tail.durable ≡ log.tail.durable → tail.flushed ≡ log.tail.flushed
      → LogHolds (with_tail log tail) says
  retail-holds tail next durable flushed =
      from-words (with_tail log tail) says inv.cached_slots inv.persisted_slots (rw (next, durable, flushed) (in_words log says inv))

  pub flush-holds : LogHolds (flush_log_of log) says
  unfolding flush_log_of flushed_tail
  flush-holds =
      from-words
      (flush_log_of log)
      says
      inv.cached_slots
      inv.persisted_slots
      (Slots.flush-holds lsn-written (in_words log says inv) (log.tail.next.0 - 1)
      (omega (arith, inv.durable_flushed, inv.flushed_next)) (omega (arith, inv.flushed_next)))

  -- a log of which words of a live entry are persisted, however many, keeps the invariant
  pub tear-holds : (slot count : ℕ) → is_live_slot log slot ≡ true → LogHolds (evict_words_of log slot count) says
  unfolding evict_words_of
  tear-holds slot count is_live =
      let live = live_slot log slot is_live in
      let inside : slot < length log.persisted = omega (arith, inv.persisted_slots, slot-below live.0, live.3) in
      from-words
      (evict_words_of log slot count)
      says
      inv.cached_slots
      (length_persist_words log.cached log.persisted slot count ∙ inv.persisted_slots)
      (Slots.evict-holds
      lsn-written
      (in_words log says inv)
      live.0
      count
      live.1
      live.2
      (rw live.3 (record {
        here = ap slot_words (persist_here log.cached log.persisted slot count inside) ∙ torn_words _ _ count;
        elsewhere = λ other differs. ap slot_words (persist_other log.cached log.persisted slot count other differs);
      }))
      (λ other below. refl))

  pub fence-holds : LogHolds (fence_log_of log) says
  unfolding fence_log_of fenced_tail
  fence-holds =
      let first = log.tail.durable.0 + 1 in
      let count = unfenced log.tail in
      from-words
      (fence_log_of log)
      says
      inv.cached_slots
      (length_persist_from log.cached log.persisted first count ∙ inv.persisted_slots)
      (Slots.fence-holds
      lsn-written
      (in_words log says inv)
      (record {
        here = λ number past up_to.
            ap slot_words (run_here log.cached log.persisted first count number inv.persisted_slots (omega arith) (omega arith));
        elsewhere = λ slot outside.
            ap slot_words
            (run_elsewhere log.cached log.persisted first count slot (λ live from to. outside live (omega arith) (omega arith)));
      })
      (λ slot inside. refl))

  -- a log of which durable entries are dropped keeps the invariant
  pub drop-holds : (count : ℕ) → log.head.0 + count ≤ log.tail.next.0 → log.head.0 + count ≤ log.tail.durable.0 + 1
      → LogHolds (drop_of log count) says
  unfolding drop_of
  drop-holds count head_next head_durable =
      from-words
      (drop_of log count)
      says
      inv.cached_slots
      inv.persisted_slots
      (Slots.drop-holds lsn-written (in_words log says inv) (log.head.0 + count) (omega arith) head_next head_durable)
