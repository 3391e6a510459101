-- Two texts are the same just where `==` says so, and then they are equal.
use Prim.Native.Nat.{ℕ}
use borrow.Author.Tests.{eq-eqb}
use mathlib.Core.Path.{◌≡◌, refl, ap, ◌∙◌}
use mathlib.Core.Bool.{Bool, true, ◌&&◌}
use mathlib.Core.List.{List, [], ◌∷◌}
use lib.Dec.{eqb}
use Rattle.std.proofs.lemmas.Slice.Eq.{bytes_eq-Decides}
use Rattle.std.specs.Str.{bytes_eq}
use Rattle.names.specs.Text.{same_text}

-- what `==` says is what the definition says
pub same_is : (one other : List ℕ) → bytes_eq one other ≡ same_text one other
unfolding same_text
same_is [] [] = refl
same_is [] (byte ∷ other) = refl
same_is (byte ∷ one) [] = refl
same_is (byte ∷ one) (byte' ∷ other) = ap (λ (rest : Bool). eqb byte byte' && rest) (same_is one other)

-- texts that are the same are equal
pub same_eq : (one other : List ℕ) → same_text one other ≡ true → one ≡ other
same_eq one other same = (bytes_eq-Decides one other).0 (same_is one other ∙ same)

-- a text is the same as itself
pub same_refl : (text : List ℕ) → same_text text text ≡ true
unfolding same_text
same_refl [] = refl
same_refl (byte ∷ text) = rw (eq-eqb byte byte refl) (same_refl text)
