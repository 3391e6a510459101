-- `script::read_fields` meets its contract.
use mathlib.Core.Path.{◌≡◌, sym, ◌∙◌}
use native.Mathlib.Omega.{arith}
use borrow.Author.Tests.{eq-eqb, ne_eqb}
use Rattle.std.proofs.lemmas.Result.{err_from_is_err_and}
use Rattle.answer.specs.Refusals.{first_refusal}
use Rattle.kinds.proofs.Inputs.{not_below}
use Rattle.cache.specs.Cache.{line_count}
use Rattle.script.specs.Script.{retired_kind, retired_tests, reading_of}
use Rattle.script.proofs.ScriptLaws.{read-line}
use Rattle.script.proofs.read_fields.Goals as goal
use Rattle.script.proofs.read_fields.Goals.{After-fields_answer}

-- the fields of an EVICT line were asked
asked : (c : After-fields_answer) → let a = c.args in c.fields_answer.result ≡ first_refusal (retired_tests a.thread a.place a.value)
asked c = c.fields_answer.ensures ∙ rw (c.is_left.ensures, not_below line_count c.args.place)

pub returns-then-kind-ne-EVICT : goal.returns-then-kind-ne-EVICT
unfolding reading_of
returns-then-kind-ne-EVICT c = rw (ne_eqb c.args.kind retired_kind c.if-kind-ne-EVICT.true)

pub returns-in_err-fields_answer : goal.returns-in_err-fields_answer
unfolding reading_of
returns-in_err-fields_answer c =
    let p = err_from_is_err_and c.from_residual.result c.from_residual.ensures.1 in
    rw (
      p.1,
      p.2,
      eq-eqb c.args.kind retired_kind c.if-kind-ne-EVICT.false,
      ← asked (goal.at.returns-in_err-fields_answer c).After-fields_answer,
      c.in_err-fields_answer.was,
    )

pub overflow_mul-result : goal.overflow_mul-result
overflow_mul-result c =
    let a = c.args in
    omega (arith, read-line a.thread a.place a.value (sym (asked (goal.at.overflow_mul-result c).After-fields_answer) ∙ c.in_ok-fields_answer.was))

pub returns : goal.returns
unfolding reading_of
returns c =
    rw (
      eq-eqb c.args.kind retired_kind c.if-kind-ne-EVICT.false,
      ← asked (goal.at.returns c).After-fields_answer,
      c.in_ok-fields_answer.was,
    )
