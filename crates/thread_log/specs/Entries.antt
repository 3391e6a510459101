-- One log: its entries, whatever they say, and what appends, flushes, fences, evictions and dropped entries do to it.
use Rattle.std.specs.Prelude.{Option, Ok}
use Rattle.std.specs.Prelude.{ℕ, zero, suc, ◌+◌, Bool, cond, not, ◌&&◌, List, [], ◌∷◌, get_or, set, replicate, eqb, leb}
use Rattle.sizes.specs.Sizes.{entry_words}
use Rattle.answer.specs.Answer.{Answer}
use Rattle.answer.specs.Lists.{some_below}
use Rattle.answer.specs.Refusals.{Test, ◌⇒◌, unless}
use Rattle.answer.specs.declared.Refusal.TheVariants.{NoLiveEntry}
use Rattle.ring.specs.Ring.{slot_count, lsn, slot_of}
use Rattle.entry.specs.Words.{entry_of, zeros, torn_of}
use Rattle.tail.specs.Tail.{live_of, unfenced, fresh_tail, flushed_tail, fenced_tail}
use Rattle.append.specs.Append.{grown_tail, room_tests}
use Rattle.entry.specs.declared.Entry.{Entry}
use Rattle.entry.specs.declared.Payload.{Payload}
use Rattle.tail.specs.declared.Tail.{Tail}
use Rattle.thread_log.specs.declared.Log.{Log}

-- what a change of a log answers, beside the log after it
pub record Changed : Type 0 where
  pub answer : Answer
  pub log : Log

-- "An untouched slot holds four zeros; heads start at 1."
unfoldable pub fresh_log : Log
fresh_log = record {
  cached = replicate slot_count zeros;
  persisted = replicate slot_count zeros;
  head = lsn 1;
  tail = fresh_tail;
}

-- "Live entries have rank head or more": how many there are
abbrev pub live_count : Log → ℕ
live_count log = live_of log.tail log.head.0

-- what the slot of an LSN holds, cached (document 01: seen) and persisted (kept)
abbrev pub entry_at : Log → ℕ → Entry
entry_at log number = get_or log.cached (slot_of number) zeros

abbrev pub kept_at : Log → ℕ → Entry
kept_at log number = get_or log.persisted (slot_of number) zeros

-- some live entry sits in the slot
unfoldable pub is_live_slot : Log → ℕ → Bool
is_live_slot log slot = some_below (live_count log) (λ index. eqb (slot_of (log.head.0 + index)) slot)

-- the tests of an append: 6, then 5
abbrev pub append_tests : Log → List Test
append_tests log = room_tests log.tail log.head.0

-- the log with one entry more, of the next LSN, which begins to release this lock, if any
unfoldable pub append_of : Log → Payload → Option ℕ → Log
append_of log payload closes = record {
  cached = set log.cached (slot_of log.tail.next.0) (entry_of log.tail.next payload);
  persisted = log.persisted;
  head = log.head;
  tail = grown_tail log.tail closes;
}

-- an append: the log with the entry, beside its rank, or a refusal and the log as it was
unfoldable pub appended_of : Log → Payload → Option ℕ → Changed
appended_of log payload closes =
    unless
    (λ answer. record { answer = answer; log = log })
    (append_tests log)
    (record { answer = Ok log.tail.next.0; log = append_of log payload closes })

-- the log with another record of its thread
abbrev pub with_tail : Log → Tail → Log
with_tail log tail = record { cached = log.cached; persisted = log.persisted; head = log.head; tail = tail }

-- FLUSHLOG
unfoldable pub flush_log_of : Log → Log
flush_log_of log = with_tail log (flushed_tail log.tail)

-- the persisted slots after the first so many words of what is cached in a slot became kept
unfoldable pub persist_words : List Entry → List Entry → ℕ → ℕ → List Entry
persist_words cached persisted slot count = set persisted slot (torn_of (get_or persisted slot zeros) (get_or cached slot zeros) count)

-- the persisted slots after what is cached in a slot became kept, all of its words
unfoldable pub persist_slot : List Entry → List Entry → ℕ → List Entry
persist_slot cached persisted slot = persist_words cached persisted slot entry_words

-- the persisted slots after the cached entries of so many LSNs from this one became kept
unfoldable pub persist_from : List Entry → List Entry → ℕ → ℕ → List Entry
persist_from cached persisted number zero = persisted
persist_from cached persisted number (suc count) =
    persist_slot cached (persist_from cached persisted number count) (slot_of (number + count))

-- FENCE: "This thread's marked entries are kept and firm." The firm ones among them are kept already.
unfoldable pub fence_log_of : Log → Log
fence_log_of log = record {
  cached = log.cached;
  persisted = persist_from log.cached log.persisted (log.tail.durable.0 + 1) (unfenced log.tail);
  head = log.head;
  tail = fenced_tail log.tail;
}

-- "18: no live entry in the slot."
unfoldable pub evict_slot_tests : Log → ℕ → List Test
evict_slot_tests log slot = (not (is_live_slot log slot) ⇒ NoLiveEntry) ∷ []

-- EVICTWORDS: "the first so many words of the live entry there become kept", and "Neither makes anything firm" (document 02)
unfoldable pub evict_words_of : Log → ℕ → ℕ → Log
evict_words_of log slot count = record {
  cached = log.cached;
  persisted = persist_words log.cached log.persisted slot count;
  head = log.head;
  tail = log.tail;
}

-- EVICTLOG: "seen content becomes kept. Nothing becomes firm." All words of the entry do.
abbrev pub evict_slot_of : Log → ℕ → Log
evict_slot_of log slot = evict_words_of log slot entry_words

-- an eviction of words of a slot: the log after it, or a refusal and the log as it was
unfoldable pub evicted_words_of : Log → ℕ → ℕ → Changed
evicted_words_of log slot count =
    unless
    (λ answer. record { answer = answer; log = log })
    (evict_slot_tests log slot)
    (record { answer = Ok 0; log = evict_words_of log slot count })

-- the oldest so many entries dropped: "moving the head past" them
unfoldable pub drop_of : Log → ℕ → Log
drop_of log count = record {
  cached = log.cached;
  persisted = log.persisted;
  head = lsn (log.head.0 + count);
  tail = log.tail;
}

-- all entries before this LSN dropped; one that is neither live nor the next changes nothing
unfoldable pub drop_to_of : Log → ℕ → Log
drop_to_of log number =
    cond (leb log.head.0 number && leb number log.tail.next.0)
    (record {
      cached = log.cached;
      persisted = log.persisted;
      head = lsn number;
      tail = log.tail;
    })
    log
