-- An array that a closure makes, place by place, where each call gives what a function says and leaves the closure as it is.
use Prim.Native.Nat.{ℕ, zero, suc, ◌+◌, ◌≤◌, ◌<◌}
use mathlib.Core.Path.{◌≡◌, subst, ◌∙◌}
use mathlib.Core.Logic.{by_cases}
use mathlib.Core.List.{List, map}
use native.Mathlib.Decide.{ℕ_discrete}
use native.Mathlib.Omega.{arith}
use lib.ListN.{get_or}
use denote.Param.Members.{Mut}
use Rattle.std.specs.Array.{IsFromFnResult, IsFromFnResultFrom}
use Rattle.std.specs.Fn.{Called}
use Rattle.std.specs.List.{range_with_len}
use Rattle.std.proofs.lemmas.List.FromFn.{fill_by_all}

module _ {F B : Type 0} {g : Mut F (ℕ × Unit {0}) B} (make : ℕ → B) {bound : ℕ} {f : F}
    (gives : (place : ℕ) (made : B) (next : F) → place < bound → Called g f (place, tt) made next → (next ≡ f) × (made ≡ make place)) where
  made_at : (list : List B) (first count : ℕ) → first + count ≤ bound → IsFromFnResultFrom g f list first count → (place : ℕ) (none : B) →
      first ≤ place → place < first + count → get_or list place none ≡ make place
  made_at list first zero fits each place none low high = absurd (omega arith)
  made_at list first (suc count) fits each place none low high =
      let given = gives first each.1 each.0 (omega arith) each.3 in
      by_cases (ℕ_discrete place first)
      (λ same. rw same (each.2.1 none ∙ given.1))
      (λ other.
      made_at list (first + 1) count (omega arith)
      (subst (λ (next : F). IsFromFnResultFrom g next list (first + 1) count) given.0 each.4) place none (omega arith) (omega arith))

  pub made-list : {list : List B} → B → IsFromFnResult g f list bound → list ≡ map make (range_with_len 0 bound)
  made-list {list} none made =
      fill_by_all make list bound none made.long (λ place below. made_at list 0 bound (omega arith) made.each place none (omega arith) (omega arith))
