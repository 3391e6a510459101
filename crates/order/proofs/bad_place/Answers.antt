-- `order::bad_place` meets its contract. The loop's invariant: the whole list is marked as what is left of it.
use Prim.Native.Nat.{◌<◌}
use mathlib.Core.Path.{◌≡◌, sym, ap, ◌∙◌}
use mathlib.Core.Bool.{true}
use Rattle.std.specs.Prelude.{Some}
use native.Mathlib.Omega.{arith}
use lib.ListN.{get_or}
use borrow.Author.Rules.{rules}
use Rattle.sizes.specs.Sizes.{thread_count}
use Rattle.image.specs.Stored.{stored_logs}
use Rattle.orders.specs.Orders.{Name, name}
use Rattle.pair.specs.Pair.{may_take_name}
use Rattle.pair.proofs.PairLaws.{in-range, one-remains}
use Rattle.order.proofs.Marked.{come-on, come-bad, come-missing, come-all}
use Rattle.order.proofs.bad_place.Goals as goal
use Rattle.order.proofs.bad_place.Goals.{After-may_take_pair}

-- the pair that the loop looks at, and that it may be taken
abbrev entry : After-may_take_pair → Name
entry c = name (get_or c.in-Some.pair.now 0 0) (get_or c.in-Some.pair.now 1 0)

may : (c : After-may_take_pair) → c.may_take_pair.result ≡ true
    → may_take_name (stored_logs c.args.image.words.now) c.loop-place.left (entry c) ≡ true
may c holds = sym c.may_take_pair.ensures ∙ holds

in_range : (c : After-may_take_pair) → c.may_take_pair.result ≡ true → (entry c).thread < thread_count
in_range c holds = in-range _ _ (entry c) (may c holds)

pub returns-then-not-may_take_pair : goal.returns-then-not-may_take_pair
returns-then-not-may_take_pair c =
    let step = c.in-Some.ensures.steps in
    ap Some step.1
    ∙ sym
    (come-bad c.loop-place.invariant.come c.in-Some.pair.now _ step.0.1.0 (step.0.1.1 ∙ c.loop-place.invariant.size)
    (sym c.may_take_pair.ensures ∙ c.if-not-may_take_pair.true))

pub offset_bounds-left-log : goal.offset_bounds-left-log
offset_bounds-left-log c = let below = in_range (goal.at.offset_bounds-left-log c).After-may_take_pair c.if-not-may_take_pair.false in search rules

pub bounds-left-log : goal.bounds-left-log
bounds-left-log c = let below = in_range (goal.at.bounds-left-log c).After-may_take_pair c.if-not-may_take_pair.false in search rules

pub overflow_sub-left : goal.overflow_sub-left
overflow_sub-left c =
    let at = (goal.at.overflow_sub-left c).After-may_take_pair in
    let remains = one-remains _ _ (entry at) (may at c.if-not-may_take_pair.false) in
    omega (arith, remains)

pub bounds-left-log-in-loop-place : goal.bounds-left-log-in-loop-place
bounds-left-log-in-loop-place c = let below = in_range (goal.at.bounds-left-log-in-loop-place c).After-may_take_pair c.if-not-may_take_pair.false in search rules

pub loop-place-preserved : goal.loop-place-preserved
loop-place-preserved c =
    let step = c.in-Some.ensures.steps in
    record {
      can_next = search rules;
      is_finite = search rules;
      size = step.0.0 ∙ c.loop-place.invariant.size;
      come =
          rw step.2
          (come-on c.loop-place.invariant.come c.in-Some.pair.now _ step.0.1.0 (step.0.1.1 ∙ c.loop-place.invariant.size)
          (may (goal.at.loop-place-preserved c).After-may_take_pair c.if-not-may_take_pair.false));
    }

pub returns-then-has_left : goal.returns-then-has_left
returns-then-has_left c =
    let step = c.in-None.ensures.steps in
    sym
    (come-missing c.loop-place.invariant.come (omega (arith, step.0.1.0, c.loop-place.invariant.size))
    (sym c.has_left.ensures ∙ c.if-has_left.true))

pub returns : goal.returns
returns c =
    let step = c.in-None.ensures.steps in
    sym
    (come-all c.loop-place.invariant.come (omega (arith, step.0.1.0, c.loop-place.invariant.size))
    (sym c.has_left.ensures ∙ c.if-has_left.false))
