-- `undo::store_answer` meets its contract.
use mathlib.Core.Path.{sym, ◌∙◌}
use borrow.Author.Tests.{lt-ltb, le-ltb}
use Rattle.answer.specs.Refusals.{unless, first_refusal}
use Rattle.undo.proofs.store_answer.Goals as goal

pub returns-then-is_releasing : goal.returns-then-is_releasing
unfolding first_refusal unless
returns-then-is_releasing c = rw (sym c.is_releasing.ensures ∙ c.if-is_releasing.true)

pub returns-in_default : goal.returns-in_default
unfolding first_refusal unless
returns-in_default c = rw (sym c.is_releasing.ensures ∙ c.if-is_releasing.false, sym c.logged.ensures ∙ c.in_default.is)

pub returns-then-log-lsn : goal.returns-then-log-lsn
unfolding first_refusal unless
returns-then-log-lsn c =
    rw (
      sym c.is_releasing.ensures ∙ c.if-is_releasing.false,
      sym c.logged.ensures ∙ c.in-Some.is,
      lt-ltb c.args.log.now.tail.durable.0 c.in-Some.lsn.0 c.if-log-lsn.true,
    )

pub returns : goal.returns
unfolding first_refusal unless
returns c =
    rw (
      sym c.is_releasing.ensures ∙ c.if-is_releasing.false,
      sym c.logged.ensures ∙ c.in-Some.is,
      le-ltb c.args.log.now.tail.durable.0 c.in-Some.lsn.0 c.if-log-lsn.false,
    )
