-- `machine::Machine::cut` meets its contract.
use borrow.Author.Rules.{rules}
use native.Mathlib.Omega.{arith}
use mathlib.Core.Path.{◌≡◌, subst⁻¹}
use lib.ListN.{length}
use borrow.Author.Tests.{eq-eqb, ne_eqb}
use Rattle.answer.specs.Refusals.{unless}
use Rattle.reader.specs.Stretch.{image_words}
use Rattle.machine.specs.Image.{cut_of}
use Rattle.machine.specs.State.{Machine}
use Rattle.machine.specs.View.{machine_of}
use Rattle.machine.proofs.ImageWritten.{WrittenTo, written-cells, written-more, written_all}
use Rattle.machine.proofs.Machine.cut.Goals as goal

pub returns-then-image-ne-IMAGE_WORDS : goal.returns-then-image-ne-IMAGE_WORDS
unfolding cut_of unless
returns-then-image-ne-IMAGE_WORDS c = record {
  image = rw (ne_eqb (length c.args.image.now) image_words c.if-image-ne-IMAGE_WORDS.true);
  reached = rw (← c.self.view_is) c.self.invariant;
}

pub loop-thread-init : goal.loop-thread-init
loop-thread-init c = let a = c.args in
    let long : length a.image.now ≡ image_words = c.if-image-ne-IMAGE_WORDS.false in
    rw (← c.self.view_is, c.persist_into.ensures)
    (written-cells (machine_of c.self.inside) c.self.invariant (search rules) a.image.now long)

pub loop-thread-preserved : goal.loop-thread-preserved
loop-thread-preserved c = let l = c.loop-thread in
    let so_far = subst⁻¹ (λ (machine : Machine). WrittenTo machine l.image l.thread) c.self.view_is l.invariant in
    rw (← c.self.view_is, c.write_log.ensures)
    (written-more (machine_of c.self.inside) c.self.invariant so_far.cells l.image l.thread (omega arith) so_far)

pub returns : goal.returns
unfolding cut_of unless
returns c = let l = c.loop-thread in
    let so_far = subst⁻¹ (λ (machine : Machine). WrittenTo machine l.image l.thread) c.self.view_is l.invariant in
    let long : length c.args.image.now ≡ image_words = c.if-image-ne-IMAGE_WORDS.false in
    rw (← c.self.view_is) (record {
      image = rw (
        eq-eqb (length c.args.image.now) image_words long,
        written_all (machine_of c.self.inside) c.self.invariant so_far.cells l.image l.thread (omega arith) so_far,
      );
      reached = c.self.invariant;
    })
