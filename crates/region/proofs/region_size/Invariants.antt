-- `region::region_size` meets its contract. The loop's invariant: the entries passed, and those from here on that go on the
-- region, are all of the region.
use Prim.Native.Nat.{◌+◌, ◌-◌}
use mathlib.Core.Path.{◌≡◌}
use Rattle.undo.specs.Regions.{oldest_region, goes_on}
use Rattle.region.proofs.region_size.Given as goal

abbrev pub invariant-loop-index : goal.invariant-loop-index
invariant-loop-index l = oldest_region l.log ≡ l.index + goes_on l.log l.index (l.live - l.index)
