-- `writeback::fence` meets its contract: each turn of the loop is a turn of the walk over the lines.
use mathlib.Core.Path.{◌≡◌}
use Rattle.writeback.proofs.Fences.{FenceAt}
use Rattle.writeback.proofs.fence.Given as goal

abbrev pub invariant-loop-line : goal.invariant-loop-line
invariant-loop-line l = record {
  walk : FenceAt l.initial.cache l.thread l.line l.cache.persisted l.cache.durable l.cache.pending;
  cached-is : l.cache.cached ≡ l.initial.cache.cached;
}
