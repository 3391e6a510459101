-- "What the machine holds": the caches, the logs, the clocks, the locks and the accesses. A contract sees a machine as this record.
use Rattle.std.specs.Prelude.{List}
use Rattle.cache.specs.declared.Cache.{Cache}
use Rattle.thread_log.specs.declared.Log.{Log}
use Rattle.clocks.specs.declared.Clock.{Clock}
use Rattle.locks.specs.declared.Lock.{Lock}
use Rattle.accesses.specs.declared.Accesses.{Accesses}

pub record Machine : Type 0 where
  pub cache : Cache
  pub logs : List Log
  pub clocks : List Clock
  pub lock_clocks : List Clock
  pub locks : List Lock
  pub accesses : Accesses
