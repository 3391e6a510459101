-- A part of a list from a place up to its end, lent and given back.
use Prim.Native.Nat.{ℕ, ◌-◌}
use native.Mathlib.Omega.{arith}
use mathlib.Core.Path.{◌≡◌, ap, ◌∙◌}
use mathlib.Core.List.{List, ◌++◌, append-nil}
use lib.ListN.{length, take, drop, length-drop, drop_of_length-le}
use lib.Seq.{take_all}

-- a part up to the end that was lent comes back in its place
pub part_back : (list part : List ℕ) (at : ℕ) → take at list ++ (part ++ drop (length list - at) (drop at list)) ≡ take at list ++ part
part_back list part at =
    ap (λ (rest : List ℕ). take at list ++ (part ++ rest))
    (drop_of_length-le (drop at list) {i = length list - at} (omega (arith, length-drop at list))) ∙
    ap (λ (rest : List ℕ). take at list ++ rest) (append-nil part)

-- a part that is lent from a place up to the end is the rest of the list from there on
pub part_lent : (list : List ℕ) (at : ℕ) → take (length list - at) (drop at list) ≡ drop at list
part_lent list at = take_all (length list - at) (drop at list) (omega (arith, length-drop at list))
