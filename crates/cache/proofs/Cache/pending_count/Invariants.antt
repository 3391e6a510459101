-- `cache::Cache::pending_count` meets its contract. The loop's invariant: `count` lines before this one have a flush pending.
use mathlib.Core.Path.{◌≡◌}
use Rattle.answer.specs.Lists.{count_below}
use Rattle.cache.specs.Cache.{is_pending}
use Rattle.cache.proofs.Cache.pending_count.Given as goal

abbrev pub invariant-loop-is_pending : goal.invariant-loop-is_pending
invariant-loop-is_pending l = l.count ≡ count_below l.is_pending-index (λ line. is_pending l.fn.self l.fn.thread line)
