-- What a test of the numbers below a bound tells: one of which it holds, or that it holds of none; and of how many it holds.
use Prim.Native.Nat.{ℕ, zero, suc, ◌+◌, ◌≤◌, ◌<◌}
use mathlib.Core.Path.{◌≡◌, refl, sym, ap₂}
use mathlib.Core.Bool.{Bool, true, false, cond, ◌||◌, or-true, false≢true, true≢false}
use mathlib.Core.Logic.{by_cases}
use native.Mathlib.Decide.{ℕ_discrete}
use native.Mathlib.Numerals.{add-one}
use native.Mathlib.Omega.{arith}
use Rattle.answer.specs.Lists.{some_below, count_below}

-- a number below the bound of which the test holds
pub record SomeBelow (bound : ℕ) (test : ℕ → Bool) : Type 0 where
  pub number : ℕ
  pub below : number < bound
  pub holds : test number ≡ true

pub some_below-found : (bound : ℕ) (test : ℕ → Bool) → some_below bound test ≡ true → SomeBelow bound test
unfolding some_below
some_below-found zero test some = absurd (false≢true some)
some_below-found (suc bound) test some = by_last (test bound) refl some (some_below-found bound test)
  where
    by_last : (last : Bool) → test bound ≡ last → (last || some_below bound test) ≡ true →
        (some_below bound test ≡ true → SomeBelow bound test) → SomeBelow (suc bound) test
    by_last true holds some earlier = record { number = bound; below = omega arith; holds = holds }
    by_last false fails some earlier =
        let found = earlier some in
        record { number = found.number; below = omega (arith, found.below); holds = found.holds }

pub some_below-none : (bound : ℕ) (test : ℕ → Bool) → some_below bound test ≡ false → (number : ℕ) → number < bound → test number ≡ false
unfolding some_below
some_below-none zero test none number below = absurd (omega arith)
some_below-none (suc bound) test none number below = by_last (test bound) refl none (λ rest. some_below-none bound test rest number)
  where
    by_last : (last : Bool) → test bound ≡ last → (last || some_below bound test) ≡ false →
        (some_below bound test ≡ false → number < bound → test number ≡ false) → test number ≡ false
    by_last true holds none earlier = absurd (true≢false none)
    by_last false fails none earlier =
        by_cases (ℕ_discrete number bound) (λ same. rw same fails) (λ other. earlier none (omega arith))

-- where the test holds of a number below the bound, it holds of some
pub found-some_below : (bound : ℕ) (test : ℕ → Bool) (number : ℕ) → number < bound → test number ≡ true → some_below bound test ≡ true
unfolding some_below
found-some_below zero test number below holds = absurd (omega arith)
found-some_below (suc bound) test number below holds =
    by_cases
    (ℕ_discrete number bound)
    (λ same. rw (← same, holds))
    (λ other. rw (found-some_below bound test number (omega arith) holds, or-true))

-- where the test fails of every number below the bound, it holds of none
pub none-some_below : (bound : ℕ) (test : ℕ → Bool) → ((number : ℕ) → number < bound → test number ≡ false) → some_below bound test ≡ false
unfolding some_below
none-some_below zero test fails = refl
none-some_below (suc bound) test fails =
    ap₂ ◌||◌ (fails bound (omega arith)) (none-some_below bound test (λ number below. fails number (omega arith)))

-- ---- of how many numbers the test holds

-- the test holds of no more numbers than there are below the bound
pub count_below-most : (bound : ℕ) (test : ℕ → Bool) → count_below bound test ≤ bound
unfolding count_below
count_below-most zero test = omega arith
count_below-most (suc bound) test = by_last (test bound) (count_below-most bound test)
  where
    by_last : (last : Bool) {count : ℕ} → count ≤ bound → cond last 1 0 + count ≤ suc bound
    by_last true most = omega arith
    by_last false most = omega arith

-- below the next bound the test holds of one number more if it holds of this bound, and else of as many
pub count_below-next : (bound : ℕ) (test : ℕ → Bool) {last : Bool} → test bound ≡ last →
    count_below (bound + 1) test ≡ cond last 1 0 + count_below bound test
unfolding count_below
count_below-next bound test is_last = rw (add-one bound, is_last)

-- two tests that agree below the bound hold of as many numbers
pub count_below-same : (bound : ℕ) (one other : ℕ → Bool) → ((number : ℕ) → number < bound → one number ≡ other number) →
    count_below bound one ≡ count_below bound other
unfolding count_below
count_below-same zero one other agree = refl
count_below-same (suc bound) one other agree =
    rw (agree bound (omega arith), count_below-same bound one other (λ number below. agree number (omega arith)))

-- where a second test holds of one number more, and else agrees with the first, its count is one more
pub count_below-more : (bound : ℕ) (one other : ℕ → Bool) (extra : ℕ) → extra < bound → one extra ≡ false → other extra ≡ true →
    ((number : ℕ) → number < bound → (number ≡ extra → ⊥) → one number ≡ other number) →
    count_below bound other ≡ suc (count_below bound one)
unfolding count_below
count_below-more zero one other extra below fails holds agree = absurd (omega arith)
count_below-more (suc bound) one other extra below fails holds agree =
    by_cases
    (ℕ_discrete extra bound)
    (λ same.
    let rest = count_below-same bound one other (λ number less. agree number (omega arith) (λ equal. omega arith)) in
    rw (rw same at fails, rw same at holds) (omega arith))
    (λ differs.
    let rest = count_below-more bound one other extra (omega (arith, differs)) fails holds (λ number less. agree number (omega arith)) in
    rw (agree bound (omega arith) (λ equal. differs (sym equal))) (omega arith))

-- where the count is 0, the test fails of every number below the bound
pub count_below-none : (bound : ℕ) (test : ℕ → Bool) → count_below bound test ≡ 0 → (number : ℕ) → number < bound → test number ≡ false
unfolding count_below
count_below-none zero test none number below = absurd (omega arith)
count_below-none (suc bound) test none number below = by_last (test bound) refl none (λ rest. count_below-none bound test rest number)
  where
    by_last : (last : Bool) → test bound ≡ last → cond last 1 0 + count_below bound test ≡ 0 →
        (count_below bound test ≡ 0 → number < bound → test number ≡ false) → test number ≡ false
    by_last true holds none earlier = absurd (omega arith)
    by_last false fails none earlier =
        by_cases (ℕ_discrete number bound) (λ same. rw same fails) (λ other. earlier (omega arith) (omega arith))

-- where the test fails of every number below the bound, the count is 0
pub none-count_below : (bound : ℕ) (test : ℕ → Bool) → ((number : ℕ) → number < bound → test number ≡ false) → count_below bound test ≡ 0
unfolding count_below
none-count_below zero test fails = refl
none-count_below (suc bound) test fails =
    rw (fails bound (omega arith), none-count_below bound test (λ number below. fails number (omega arith)))
