-- The refusal's number and the buffer are those of what `recover` promises.
use mathlib.Core.Path.{ap, ◌∙◌}
use Rattle.answer.specs.Refusals.{Outcome}
use Rattle.answer.specs.Answer.{number_of}
use Rattle.exports.proofs.region_machine_recover.Goals as goal

pub returns : goal.returns
returns c = record {
  value = c.number.ensures ∙ ap (λ (outcome : Outcome). number_of outcome.answer) c.recover-answer.ensures;
  cells_after = ap (λ (outcome : Outcome). outcome.buffer) c.recover-answer.ensures;
}
