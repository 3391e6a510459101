-- `image::headed` meets its contract.
use mathlib.Core.Path.{sym, ◌∙◌}
use Rattle.sizes.specs.Sizes.{thread_count}
use Rattle.answer.proofs.BelowLaws.{some_below-none}
use Rattle.image.specs.Tests.{is_bad_head}
use Rattle.image.specs.Reading.{log_in}
use Rattle.image.proofs.Outcomes.{wrong-length, bad-head}
use Rattle.image.proofs.headed.Goals as goal

pub returns-then-image-ne-IMAGE_WORDS : goal.returns-then-image-ne-IMAGE_WORDS
returns-then-image-ne-IMAGE_WORDS c = wrong-length c.args.image.now c.if-image-ne-IMAGE_WORDS.true

pub returns-then-has_bad_heads : goal.returns-then-has_bad_heads
returns-then-has_bad_heads c =
    bad-head c.args.image.now c.if-image-ne-IMAGE_WORDS.false (sym c.has_bad_heads.ensures ∙ c.if-has_bad_heads.true)

pub invariant_of-result : goal.invariant_of-result
invariant_of-result c = record {
  long = c.if-image-ne-IMAGE_WORDS.false;
  heads =
      some_below-none thread_count (λ thread. is_bad_head (log_in c.args.image.now thread))
      (sym c.has_bad_heads.ensures ∙ c.if-has_bad_heads.false);
}
