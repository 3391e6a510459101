-- Where a byte first stands is what a search through the text finds, or its end.
use Rattle.std.proofs.Common.{◌≡◌, ℕ, ◌+◌, ◌≤◌, List, length, refl, sym, ◌∙◌, arith, Bool, true, false, cond, eqb, ltb, position, unwrap_or, ◌==◌, Some, None}
use Rattle.std.specs.List.{position_or_len}
use Rattle.std.proofs.lemmas.List.Recursion.{is_position_or_len}
use Rattle.std.proofs.lemmas.List.Sums.{prefix_len-le-length}
use Rattle.scan.specs.Find.{index_of, index_after}

after_first : (is_here : Bool) (rest : ℕ) → index_after is_here rest ≡ cond is_here 0 (1 + rest)
after_first true rest = refl
after_first false rest = omega arith

index-is : (byte : ℕ) (text : List ℕ) → index_of byte text ≡ position_or_len (λ here. here == byte) text
unfolding index_of
index-is byte text = is_position_or_len (index_of byte) (λ here. here == byte) refl (λ first rest. after_first (eqb first byte) (index_of byte rest)) text

found_within : (place most : ℕ) → place ≤ most → unwrap_or (cond (ltb place most) (Some place) None) most ≡ place
found_within place most within = grind arith

pub found_or_end : (byte : ℕ) (text : List ℕ) → unwrap_or (position (λ here. here == byte) text) (length text) ≡ index_of byte text
found_or_end byte text = found_within _ _ (prefix_len-le-length _ text) ∙ sym (index-is byte text)
