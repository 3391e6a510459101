-- `replay::run` meets its contract. The loop's invariant: what is left to run from here leads where the whole run leads.
use mathlib.Core.Path.{◌≡◌}
use Rattle.machine.specs.Holds.{start_of}
use Rattle.replay.specs.Replay.{steps_of, run_of}
use Rattle.replay.proofs.run.Given as goal

abbrev pub invariant-loop-words : goal.invariant-loop-words
invariant-loop-words l = record {
  size : l.words-iterator.size ≡ 4;
  leads : run_of l.stepped (steps_of l.words-iterator.rest.now) ≡ run_of (start_of l.fn.start) (steps_of l.fn.steps);
}
