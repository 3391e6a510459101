-- The thread's record: how far its log has come, and the lock that it is closing on.
use Rattle.std.specs.Prelude.{None, Option, Some}
use Rattle.std.specs.Prelude.{ℕ, ◌-◌, Bool, true, false, eqb}
use Rattle.ring.specs.Ring.{lsn}
use Rattle.tail.specs.declared.Tail.{Tail}

-- "Live entries have rank head or more": how many there are
abbrev pub live_of : Tail → ℕ → ℕ
live_of tail head = tail.next.0 - head

-- document 02's "marked entries not yet firm": how many there are. Firm are the entries up to one rank, marked those up to another.
abbrev pub unfenced : Tail → ℕ
unfenced tail = tail.flushed.0 - tail.durable.0

-- the thread is closing, in document 01's words
abbrev pub is_releasing : Option ℕ → Bool
is_releasing None = false
is_releasing (Some lock) = true

-- the thread is closing on this lock
abbrev pub is_releasing_lock : Option ℕ → ℕ → Bool
is_releasing_lock None lock = false
is_releasing_lock (Some held) lock = eqb held lock

-- the record of a thread that has made no entry
unfoldable pub fresh_tail : Tail
fresh_tail = record { next = lsn 1; durable = lsn 0; flushed = lsn 0; releasing = None }

-- FLUSHLOG: "marks all of the thread's entries made so far"
unfoldable pub flushed_tail : Tail → Tail
flushed_tail tail = record {
  next = tail.next;
  durable = tail.durable;
  flushed = lsn (tail.next.0 - 1);
  releasing = tail.releasing;
}

-- FENCE: "This thread's marked entries are kept and firm."
unfoldable pub fenced_tail : Tail → Tail
fenced_tail tail = record {
  next = tail.next;
  durable = tail.flushed;
  flushed = tail.flushed;
  releasing = tail.releasing;
}

-- RELEASE: "ends closing"
unfoldable pub released_tail : Tail → Tail
released_tail tail = record {
  next = tail.next;
  durable = tail.durable;
  flushed = tail.flushed;
  releasing = None;
}
