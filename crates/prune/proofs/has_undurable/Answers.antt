-- `prune::has_undurable` meets its contract, by its loop's invariant.
use Prim.Native.Nat.{ℕ, zero, suc, ◌-◌, ◌<◌}
use mathlib.Core.Path.{◌≡◌, refl, sym, ◌∙◌}
use mathlib.Core.Bool.{Bool, ◌||◌}
use native.Mathlib.Omega.{arith}
use Rattle.answer.specs.Lists.{some_below}
use Rattle.prune.proofs.has_undurable.Invariants.{test}
use Rattle.prune.proofs.has_undurable.Goals as goal
use Rattle.prune.proofs.has_undurable.Goals.{After-logs_undurable}

-- a test holds of a number below the bound where it holds of the last one or of one below that
turn : (test : ℕ → Bool) (left : ℕ) → 0 < left → some_below left test ≡ (test (left - 1) || some_below (left - 1) test)
unfolding some_below
turn test zero some = absurd (omega arith)
turn test (suc left) some = let last : suc left - 1 ≡ left = omega arith in rw last

-- one of the first so many entries logs an undurable cell where the one just tested does, or one of those left
rest : (c : After-logs_undurable)
    → let a = c.args in
    (c.logs_undurable.result || some_below (c.loop-index.index - 1) (test a.cache.now a.log.now))
    ≡ some_below a.count (test a.cache.now a.log.now)
rest c =
    let a = c.args in
    rw (c.logs_undurable.ensures, c.live_event.ensures)
    (sym (turn (test a.cache.now a.log.now) c.loop-index.index (omega arith)) ∙ c.loop-index.invariant)

pub returns-then-logs_undurable : goal.returns-then-logs_undurable
returns-then-logs_undurable c = rw c.if-logs_undurable.true at (rest (goal.at.returns-then-logs_undurable c).After-logs_undurable)

pub loop-index-preserved : goal.loop-index-preserved
loop-index-preserved c = rw c.if-logs_undurable.false at (rest (goal.at.loop-index-preserved c).After-logs_undurable)

pub returns : goal.returns
unfolding some_below
returns c = let none : c.loop-index.index ≡ 0 = omega arith in
    rw none at c.loop-index.invariant
