-- `writeback::carried` meets its contract: the sum of two counts, of which the first is at most 16, fits.
use Prim.Native.Nat.{ℕ, ◌≤◌}
use native.Mathlib.Omega.{arith}
use mathlib.Core.Path.{◌≡◌}
use mathlib.Core.Bool.{Bool}
use Rattle.answer.specs.Lists.{count_below}
use Rattle.answer.proofs.BelowLaws.{count_below-most}
use Rattle.cache.specs.Cache.{line_count}
use Rattle.writeback.proofs.carried.Goals as goal

-- a count of lines is at most 16
at_most : {count : ℕ} (test : ℕ → Bool) → count ≡ count_below line_count test → count ≤ line_count
at_most test is_count = rw is_count (count_below-most line_count test)

pub overflow_add-result : goal.overflow_add-result
overflow_add-result c = omega (arith, at_most _ c.pending_count-lines.ensures)
