-- The invariant of `prune::has_undurable`'s loop: an entry is among the first so many where it is among those left.
use mathlib.Core.Path.{◌≡◌}
use mathlib.Core.Bool.{Bool}
use Prim.Native.Nat.{ℕ}
use Rattle.answer.specs.Lists.{some_below}
use Rattle.cache.specs.declared.Cache.{Cache}
use Rattle.undo.specs.Entering.{live_event}
use Rattle.thread_log.specs.declared.Log.{Log}
use Rattle.prune.specs.Pruning.{logs_undurable}
use Rattle.prune.proofs.has_undurable.Given as goal

-- the live entry logs a cell that is not durable
abbrev pub test : Cache → Log → ℕ → Bool
test cache log index = logs_undurable cache (live_event log index)

abbrev pub invariant-loop-index : goal.invariant-loop-index
invariant-loop-index l = some_below l.index (test l.cache l.log) ≡ some_below l.count (test l.cache l.log)
