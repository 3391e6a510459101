-- The digits that are left go on with the number so far as the whole text says.
use mathlib.Core.Path.{◌≡◌}
use lib.ListN.{drop}
use Rattle.number.specs.Decimal.{number_in, digits_after}
use Rattle.number.proofs.number_in.Given as goal

abbrev pub invariant-loop-byte : goal.invariant-loop-byte
invariant-loop-byte l = number_in l.text ≡ digits_after l.number (drop l.byte-index l.text)
