-- `claimed::take_steps` meets its contract. The loop's invariant: what is printed for all lines is printed for those that are left.
use lib.ListN.{length}
use Rattle.claimed.proofs.Steps.{Taking}
use Rattle.claimed.proofs.take_steps.Given as goal

abbrev pub invariant-loop-kind : goal.invariant-loop-kind
invariant-loop-kind l = Taking l.input l.machine l.number l.rest

abbrev pub decreases-loop-kind : goal.decreases-loop-kind
decreases-loop-kind l = length l.rest
