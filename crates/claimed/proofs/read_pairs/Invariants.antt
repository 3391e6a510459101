-- `claimed::read_pairs` meets its contract. The loop's invariant: what is printed for all lines is printed for those that are left.
use lib.ListN.{length}
use Rattle.claimed.proofs.Pairs.{Reading}
use Rattle.claimed.proofs.read_pairs.Given as goal

abbrev pub invariant-loop-rest : goal.invariant-loop-rest
invariant-loop-rest l = Reading l.input l.first l.pairs l.number l.count l.rest

abbrev pub decreases-loop-rest : goal.decreases-loop-rest
decreases-loop-rest l = length l.rest
