-- "What the machine holds": its parts by number, the same machine with another part, and the machine of a start call.
use Rattle.std.specs.Prelude.{Ok, Err}
use Rattle.std.specs.Prelude.{None}
use Rattle.std.specs.Prelude.{ℕ, ◌*◌, cond, List, [], length, get_or, set, replicate, eqb}
use Rattle.sizes.specs.Sizes.{thread_count, lock_count}
use Rattle.answer.specs.declared.Refusal.TheVariants.{WrongLength}
use Rattle.cache.specs.Cache.{cell_count, cache_of}
use Rattle.cache.specs.declared.Cache.{Cache}
use Rattle.ring.specs.Ring.{lsn}
use Rattle.thread_log.specs.Entries.{fresh_log}
use Rattle.thread_log.specs.declared.Log.{Log}
use Rattle.accesses.specs.declared.Accesses.{Accesses}
use Rattle.clocks.specs.declared.Clock.{Clock}
use Rattle.locks.specs.declared.Lock.{Lock}
use Rattle.clocks.specs.Clocks.{no_clock, start_clocks}
use Rattle.locks.specs.Locks.{no_lock}
use Rattle.machine.specs.State.{Machine}
use Rattle.machine.specs.declared.Stepped.{Stepped}

-- what stands at a number past the end of the array of logs: never read by a step whose fields are in range
abbrev pub no_log : Log
no_log = record {
  cached = [];
  persisted = [];
  head = lsn 0;
  tail = record { next = lsn 0; durable = lsn 0; flushed = lsn 0; releasing = None };
}

-- the machine's parts by number
abbrev pub log_of : Machine → ℕ → Log
log_of machine thread = get_or machine.logs thread no_log

abbrev pub lock_of : Machine → ℕ → Lock
lock_of machine lock = get_or machine.locks lock no_lock

abbrev pub clock_of : Machine → ℕ → Clock
clock_of machine thread = get_or machine.clocks thread no_clock

abbrev pub lock_clock_of : Machine → ℕ → Clock
lock_clock_of machine lock = get_or machine.lock_clocks lock no_clock

-- the machine with another cache, log, access record, locks, lock, or clock
abbrev pub with_cache : Machine → Cache → Machine
with_cache machine cache = record {
  cache = cache;
  logs = machine.logs;
  clocks = machine.clocks;
  lock_clocks = machine.lock_clocks;
  locks = machine.locks;
  accesses = machine.accesses;
}

abbrev pub with_log : Machine → ℕ → Log → Machine
with_log machine thread log = record {
  cache = machine.cache;
  logs = set machine.logs thread log;
  clocks = machine.clocks;
  lock_clocks = machine.lock_clocks;
  locks = machine.locks;
  accesses = machine.accesses;
}

abbrev pub with_accesses : Machine → Accesses → Machine
with_accesses machine accesses = record {
  cache = machine.cache;
  logs = machine.logs;
  clocks = machine.clocks;
  lock_clocks = machine.lock_clocks;
  locks = machine.locks;
  accesses = accesses;
}

abbrev pub with_locks : Machine → List Lock → Machine
with_locks machine locks = record {
  cache = machine.cache;
  logs = machine.logs;
  clocks = machine.clocks;
  lock_clocks = machine.lock_clocks;
  locks = locks;
  accesses = machine.accesses;
}

abbrev pub with_lock : Machine → ℕ → Lock → Machine
with_lock machine lock value = with_locks machine (set machine.locks lock value)

abbrev pub with_clock : Machine → ℕ → Clock → Machine
with_clock machine thread clock = record {
  cache = machine.cache;
  logs = machine.logs;
  clocks = set machine.clocks thread clock;
  lock_clocks = machine.lock_clocks;
  locks = machine.locks;
  accesses = machine.accesses;
}

abbrev pub with_lock_clock : Machine → ℕ → Clock → Machine
with_lock_clock machine lock clock = record {
  cache = machine.cache;
  logs = machine.logs;
  clocks = machine.clocks;
  lock_clocks = set machine.lock_clocks lock clock;
  locks = machine.locks;
  accesses = machine.accesses;
}

-- the machine at the start, with these cells: nothing logged, nothing held, nothing accessed
unfoldable pub fresh_machine : List ℕ → Machine
fresh_machine cells = record {
  cache = cache_of cells;
  logs = replicate thread_count fresh_log;
  clocks = start_clocks;
  lock_clocks = replicate lock_count no_clock;
  locks = replicate lock_count no_lock;
  accesses = record {
    stamps = replicate (cell_count * thread_count) 0;
    logged = replicate cell_count 0;
    loggers = replicate cell_count 0;
  };
}

-- the start call: "21: start not 128 words (the machine given back has all cells 0)"
unfoldable pub start_of : List ℕ → Stepped
start_of words =
    cond (eqb (length words) cell_count)
    (record { answer = Ok 0; machine = fresh_machine words })
    (record { answer = Err WrongLength; machine = fresh_machine (replicate cell_count 0) })
