-- Definitions on lists and numbers that the definitions of several crates share.
use Rattle.std.specs.Prelude.{ℕ, zero, suc, ◌+◌, Bool, false, cond, ◌||◌, List, [], ◌∷◌}

-- f 0, f 1, .., f (n − 1)
unfoldable pub tab : {A : Type 0} → ℕ → (ℕ → A) → List A
tab zero f = []
tab (suc n) f = f 0 ∷ tab n (λ i. f (suc i))

-- the test holds of some number below n
unfoldable pub some_below : ℕ → (ℕ → Bool) → Bool
some_below zero test = false
some_below (suc n) test = test n || some_below n test

-- of how many numbers below n the test holds
unfoldable pub count_below : ℕ → (ℕ → Bool) → ℕ
count_below zero test = 0
count_below (suc n) test = cond (test n) 1 0 + count_below n test

-- the list with this value at each place, counted from this number on, of which the test holds
unfoldable pub set_from : {A : Type 0} → (ℕ → Bool) → A → ℕ → List A → List A
set_from test value place [] = []
set_from test value place (old ∷ list) = cond (test place) value old ∷ set_from test value (suc place) list

-- the second list with what the first has at each place, counted from this number on, of which the test holds
unfoldable pub mix_from : {A : Type 0} → (ℕ → Bool) → ℕ → List A → List A → List A
mix_from test place news [] = []
mix_from test place [] (old ∷ list) = old ∷ list
mix_from test place (new ∷ news) (old ∷ list) = cond (test place) new old ∷ mix_from test (suc place) news list
