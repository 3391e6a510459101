-- `image::test` meets its contract.
use mathlib.Core.Path.{sym, ◌∙◌}
use Rattle.std.proofs.lemmas.Result.{err_from_is_err_and}
use Rattle.sizes.specs.Sizes.{thread_count}
use Rattle.answer.proofs.BelowLaws.{some_below-none}
use Rattle.image.specs.Tests.{has_bad_entry}
use Rattle.image.specs.Reading.{log_in}
use Rattle.image.proofs.Outcomes.{bad-entry, passed, refused}
use Rattle.image.proofs.test.Goals as goal

pub returns-in_err-headed : goal.returns-in_err-headed
returns-in_err-headed c =
    let p = err_from_is_err_and c.from_residual.result c.from_residual.ensures.1 in
    rw (p.1, p.2) (refused c.args.image.now c.in_err-headed.ensures)

pub returns-then-has_bad_entries : goal.returns-then-has_bad_entries
returns-then-has_bad_entries c =
    let headed = c.in_ok-headed.headed in
    rw (← c.in_ok-headed.ensures)
    (bad-entry headed.words.now headed.long headed.heads (sym c.has_bad_entries.ensures ∙ c.if-has_bad_entries.true))

pub invariant_of-result : goal.invariant_of-result
invariant_of-result c = record {
  good =
      some_below-none thread_count (λ thread. has_bad_entry (log_in c.in_ok-headed.headed.words.now thread))
      (sym c.has_bad_entries.ensures ∙ c.if-has_bad_entries.false);
  counted = c.present_entries-present.ensures;
}

pub returns : goal.returns
returns c =
    let headed = c.in_ok-headed.headed in (
      c.in_ok-headed.ensures,
      rw (← c.in_ok-headed.ensures, c.present_entries-present.ensures)
          (passed headed.words.now headed.long headed.heads (sym c.has_bad_entries.ensures ∙ c.if-has_bad_entries.false)),
    )
