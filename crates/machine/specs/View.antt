-- A machine's fields are all of its value, so that a contract sees each of them and nothing is forgotten.
use Rattle.machine.specs.State.{Machine}
use Rattle.machine.specs.Runs.{Reached}
use Rattle.machine.specs.declared.Machine.TheInside.{Inside}

abbrev pub machine_of : Inside → Machine
machine_of machine = record {
  cache = machine.cache;
  logs = machine.logs;
  clocks = machine.clocks;
  lock_clocks = machine.lock_clocks;
  locks = machine.locks;
  accesses = machine.accesses;
}

abbrev pub fields_of : Machine → Inside
fields_of machine = record {
  cache = machine.cache;
  logs = machine.logs;
  clocks = machine.clocks;
  lock_clocks = machine.lock_clocks;
  locks = machine.locks;
  accesses = machine.accesses;
}

-- every machine is one that the start call and steps lead to
abbrev pub IsReached : Inside → Type 0
IsReached machine = Reached (machine_of machine)
