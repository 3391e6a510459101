-- A loop that goes through the numbers below a bound and looks for one of which a test holds.
use Prim.Native.Nat.{ℕ, zero, suc, ◌+◌, ◌≤◌, ◌<◌}
use mathlib.Core.Path.{◌≡◌, refl, sym, ap, ap₂, ◌∙◌}
use mathlib.Core.Bool.{Bool, true, false, ◌||◌}
use mathlib.Core.List.{List, [], ◌∷◌}
use native.Mathlib.Numerals.{add-one}
use native.Mathlib.Omega.{arith}
use lib.ListN.{length, get_or}
use Rattle.std.specs.List.{list_any, range_with_len}
use Rattle.std.proofs.lemmas.List.FromFn.{length-range_with_len, get_or-range_with_len}
use Rattle.answer.specs.Lists.{some_below}
use Rattle.answer.proofs.BelowLaws.{found-some_below}

-- the loop stands at this place, and the test holds of none before it
pub record Searched (bound : ℕ) (test : ℕ → Bool) (place : ℕ) : Type 0 where
  pub within : place ≤ bound
  pub none : some_below place test ≡ false

pub search_starts : {bound : ℕ} {test : ℕ → Bool} → Searched bound test 0
unfolding some_below
search_starts = record { within = omega arith; none = refl }

module _ {bound place : ℕ} {test : ℕ → Bool} (at : Searched bound test place) where
  -- where the test fails of the number at the loop's place, the loop goes on
  pub search-on : place < bound → test place ≡ false → Searched bound test (place + 1)
  unfolding some_below
  search-on more fails = record { within = omega arith; none = rw (add-one place, fails) at.none }

  -- where the test holds of the number at the loop's place, the search finds one
  pub search-finds : place < bound → test place ≡ true → true ≡ some_below bound test
  search-finds more holds = sym (found-some_below bound test place more holds)

  -- where all numbers are passed, the search finds none
  pub search-ends : bound ≤ place → false ≡ some_below bound test
  search-ends past =
      let all : bound ≡ place = omega (arith, at) in
      sym (ap (λ (number : ℕ). some_below number test) all ∙ at.none)

-- two tests that agree find the same
pub search_same : (bound : ℕ) (one other : ℕ → Bool) → ((number : ℕ) → number < bound → one number ≡ other number) →
    some_below bound one ≡ some_below bound other
unfolding some_below
search_same zero one other agree = refl
search_same (suc bound) one other agree =
    ap₂ ◌||◌ (agree bound (omega arith)) (search_same bound one other (λ number below. agree number (omega arith)))

-- one number more in front: the test holds of the first one, or of some later one
front_first : (bound : ℕ) (test : ℕ → Bool) → some_below (suc bound) test ≡ (test 0 || some_below bound (λ number. test (suc number)))
unfolding some_below
front_first zero test = refl
front_first (suc bound) test =
    ap (λ (rest : Bool). test (suc bound) || rest) (front_first bound test) ∙ or_swap (test (suc bound)) (test 0) _
  where
    or_swap : (one other rest : Bool) → (one || (other || rest)) ≡ (other || (one || rest))
    or_swap true true rest = refl
    or_swap true false rest = refl
    or_swap false true rest = refl
    or_swap false false rest = refl

-- a test holds of some element of a list where it holds of the element at some place
pub any-list : {A : Type 0} (test : A → Bool) (list : List A) (none : A) →
    list_any test list ≡ some_below (length list) (λ place. test (get_or list place none))
unfolding some_below
any-list test [] none = refl
any-list test (first ∷ list) none =
    ap (λ (rest : Bool). test first || rest) (any-list test list none)
    ∙ sym (front_first (length list) (λ place. test (get_or (first ∷ list) place none)))

-- `any` over the numbers below a bound is such a search
pub any-below : (bound : ℕ) (test : ℕ → Bool) → list_any test (range_with_len 0 bound) ≡ some_below bound test
any-below bound test =
    any-list test (range_with_len 0 bound) 0
    ∙ ap (λ (count : ℕ). some_below count (λ place. test (get_or (range_with_len 0 bound) place 0))) (length-range_with_len 0 bound)
    ∙ search_same bound _ _ (λ place below. ap test (get_or-range_with_len 0 bound place 0 below ∙ omega arith))
