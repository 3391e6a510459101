-- What holds at every place of a list with one place set, and of a list of one value.
use Prim.Native.Nat.{ℕ, zero, suc, ◌<◌}
use mathlib.Core.List.{List}
use mathlib.Core.Logic.{by_cases, ◌≢◌}
use native.Mathlib.Decide.{ℕ_discrete}
use lib.ListN.{length, get_or, set, replicate}
use lib.Seq.{get_or-set_same, get_or-set_other}

-- what holds of the new value, and of the old ones elsewhere, holds of every place
pub set_cases : {A : Type 0} (list : List A) (place : ℕ) (value default : A) → place < length list →
    (P : ℕ → A → Type 0) → P place value → ((other : ℕ) → other ≢ place → P other (get_or list other default)) →
    (other : ℕ) → P other (get_or (set list place value) other default)
set_cases list place value default inside P new old other =
    by_cases
    (ℕ_discrete other place)
    (λ same. rw (same, get_or-set_same list place value default inside) new)
    (λ differs. rw (get_or-set_other list place other value default differs) (old other differs))

-- what holds of the value and of the default holds of every place
pub replicate_cases : {A : Type 0} (P : A → Type 0) (count place : ℕ) (value default : A) → P value → P default →
    P (get_or (replicate count value) place default)
replicate_cases P zero place value default holds holds_else = holds_else
replicate_cases P (suc count) zero value default holds holds_else = holds
replicate_cases P (suc count) (suc place) value default holds holds_else = replicate_cases P count place value default holds holds_else
