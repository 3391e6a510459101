-- A list that is copied over the front of another one, element by element.
use Prim.Native.Nat.{ℕ, ◌+◌, ◌<◌}
use mathlib.Core.Path.{◌≡◌}
use mathlib.Core.List.{List, ◌++◌}
use native.Mathlib.Nat.{zero-add}
use native.Mathlib.Numerals.{add-one}
use lib.ListN.{length, get_or, set, take, drop}
use lib.Seq.{paste-suc}

-- where the elements before `i` are copied, storing the one at `i` copies one more
pub copied_more : (over from : List ℕ) (i : ℕ) → i < length over → i < length from
    → set (take i from ++ drop i over) i (get_or from i 0) ≡ take (i + 1) from ++ drop (i + 1) over
copied_more over from i h k = rw add-one (simp zero-add at (paste-suc over 0 from i 0 (rw zero-add h) k))
