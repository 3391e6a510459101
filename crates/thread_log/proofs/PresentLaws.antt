-- The present entries of a log: all that is durable is present, all that is present is live, and its words are those of the entry.
use Prim.Native.Nat.{ℕ, ◌+◌, ◌-◌, ◌<◌, ◌≤◌}
use mathlib.Core.Path.{◌≡◌}
use mathlib.Core.Bool.{true}
use mathlib.Core.Logic.{by_cases}
use native.Mathlib.Decide.{ℕ_discrete}
use native.Mathlib.Omega.{arith}
use Rattle.ring.specs.Ring.{slot_count, lsn}
use Rattle.entry.specs.Words.{entry_of, words_of}
use Rattle.thread_log.specs.Entries.{kept_at}
use Rattle.reader.specs.Stretch.{holds, present_of}
use Rattle.thread_log.specs.declared.Log.{Log}
use Rattle.entry.specs.declared.Payload.{Payload}
use Rattle.thread_log.proofs.LogInvariant.{LogHolds}
use Rattle.reader.proofs.Presence.{present-at-most, present-found, present-reaches}
use Rattle.thread_log.proofs.SlotLaws.{WordsAre, words_are, entry-holds}

-- how many entries of a log are present
abbrev pub present_count : Log → ℕ
present_count log = present_of (words_of log.persisted) log.head.0

-- what the present entries of a log are
pub record PresentAre (log : Log) (says : ℕ → Payload) : Type 0 where
  pub durable_present : log.tail.durable.0 < log.head.0 + present_count log
  pub present_live : log.head.0 + present_count log ≤ log.tail.next.0
  pub present_most : present_count log ≤ slot_count
  pub present_is : (index : ℕ) → index < present_count log
      → WordsAre (words_of log.persisted) (log.head.0 + index) (says (log.head.0 + index))

pub present_are : (log : Log) (says : ℕ → Payload) → LogHolds log says → PresentAre log says
unfolding present_of
present_are log says inv =
    let head = log.head.0 in
    let slots = log.persisted in
    let finds = holds (words_of slots) in
    let present = present_count log in
    let most = present-at-most finds head slot_count in
    let found : (index : ℕ) → index < present →
    (head + index < log.tail.next.0) × (kept_at log (head + index) ≡ entry_of (lsn (head + index)) (says (head + index))) =
    λ index below. inv.found_is (head + index) (omega arith) (omega arith) (present-found finds head slot_count index below).0 in
    let durable : (index : ℕ) → index < log.tail.durable.0 + 1 - head → finds (head + index) ≡ true =
    λ index below. entry-holds slots (head + index) (says (head + index)) (inv.durable_is (head + index) (omega arith) (omega arith)) in
    record {
      durable_present =
          omega (arith, present-reaches finds head slot_count (log.tail.durable.0 + 1 - head) (omega arith) (omega arith) durable);
      present_live = by_cases (ℕ_discrete present 0) (λ none. omega arith) (λ some. omega (arith, (found (present - 1) (omega arith)).0));
      present_most = most;
      present_is = λ index below. words_are slots (head + index) (says (head + index)) (found index below).1;
    }
