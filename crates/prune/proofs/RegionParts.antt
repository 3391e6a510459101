-- The parts of a log's oldest region, and that its entries are live.
use Prim.Native.Nat.{◌≤◌}
use mathlib.Core.Path.{◌≡◌, ap}
use native.Mathlib.Omega.{arith}
use Rattle.thread_log.specs.Entries.{live_count}
use Rattle.thread_log.specs.declared.Log.{Log}
use Rattle.undo.specs.Regions.{oldest_region, oldest_of}
use Rattle.undo.specs.declared.Region.{Region}
use Rattle.region.proofs.OldestLaws.{region-live}

pub sized : (log : Log) (region : Region) → region ≡ oldest_of log → region.size ≡ oldest_region log
sized log region is = ap (λ (region : Region). region.size) is

pub live : (log : Log) (region : Region) → region ≡ oldest_of log → region.size ≤ live_count log
live log region is = omega (arith, sized log region is, region-live log)
