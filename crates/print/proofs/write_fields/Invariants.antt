-- So many fields are in the line.
use Rattle.print.proofs.PrintLaws.{FieldsWrote}
use Rattle.print.proofs.write_fields.Given as goal

abbrev pub invariant-loop-label : goal.invariant-loop-label
invariant-loop-label l = FieldsWrote l.fields l.line.buffer.now l.line.place l.label-index
