-- `print::write_fields` meets its contract: the line is made field by field, and written at once.
use Rattle.names.specs.Text.{ascii}
use Rattle.print.specs.Printed.{fields_text}
use Rattle.buffer.proofs.BufferLaws.{Wrote, wrote_front}
use lib.ListN.{replicate}
use mathlib.Core.Path.{◌∙◌}
use Rattle.print.proofs.PrintLaws.{fields_on, fields_end, made-within}
use Rattle.print.proofs.write_fields.Goals as goal
use Rattle.print.proofs.write_fields.Goals.{After-write-2}

pub loop-label-preserved : goal.loop-label-preserved
loop-label-preserved c =
    let label = c.write.ensures in
    let number = c.write_number.ensures in
    fields_on c.loop-label.invariant c.requires.few c.loop-label-test.true c.requires.short _ label.place_after label.buffer_after
    number.place_after number.buffer_after

-- the fields make the line
line_made : (c : After-write-2) → Wrote (replicate 88 0) c.write-2.new.self.buffer.now c.write-2.new.self.place (fields_text c.args.fields.now)
unfolding ascii
line_made c =
    fields_end c.loop-label.invariant c.requires.few c.loop-label-test.false c.loop-label.auto.label-index-end
    c.write-2.ensures.place_after c.write-2.ensures.buffer_after

pub text-requires : goal.text-requires
text-requires c = made-within (line_made (goal.at.text-requires c).After-write-2)

pub returns : goal.returns
returns c = rw (c.text.ensures ∙ wrote_front (line_made (goal.at.returns c).After-write-2)) at c.write-3.ensures
