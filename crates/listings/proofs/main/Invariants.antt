-- `listings::main` is safe and ends: each turn is one name, and counts one more that passed or failed.
use Prim.Native.Nat.{◌+◌, ◌≤◌, ◌<◌}
use Rattle.listings.proofs.main.Given as goal

abbrev pub invariant-loop-i : goal.invariant-loop-i
invariant-loop-i l = (1 ≤ l.i) × (l.passed + l.failed < l.i)
