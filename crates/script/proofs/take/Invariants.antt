-- The invariant of `script::take`'s loop: of the steps that the line is read as, so many are taken.
use mathlib.Core.Path.{◌≡◌}
use Rattle.script.specs.Script.{taken_of}
use Rattle.script.proofs.take.Given as goal

abbrev pub invariant-loop-index : goal.invariant-loop-index
invariant-loop-index l = record { answer = l.answer; machine = l.machine } ≡ taken_of l.initial.machine l.reading l.value l.index
