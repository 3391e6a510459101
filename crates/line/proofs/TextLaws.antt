-- A law of the rest of a text.
use Prim.Native.Nat.{ℕ, ◌-◌}
use mathlib.Core.Path.{◌≡◌}
use mathlib.Core.List.{List}
use native.Mathlib.Omega.{arith}
use lib.ListN.{length, take, drop, length-drop}
use lib.Seq.{take_all}

-- a part from a place up to the end is the rest of the text
pub part_rest : (n : ℕ) (text : List ℕ) → take (length text - n) (drop n text) ≡ drop n text
part_rest n text = take_all (length text - n) (drop n text) (omega (arith, length-drop n text))
