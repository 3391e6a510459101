-- "the number beside is 0": an answer is an acceptance, or 0 stands beside it.
use Prim.Native.Nat.{ℕ}
use mathlib.Core.Path.{◌≡◌, refl, sym, ap, ◌∙◌}
use mathlib.Core.Bool.{false, true≢false}
use mathlib.Core.Logic.{◌⊎◌, inl, inr, ⊎_elim}
use Rattle.std.specs.Prelude.{Ok, Err}
use Rattle.answer.specs.Answer.{Answer, value_of, is_accepted}

-- the answer is an acceptance
pub record IsAccepted (answer : Answer) : Type 0 where
  pub given : ℕ
  pub is : answer ≡ Ok given

-- an answer is an acceptance, or the number beside it is 0
pub accepted_or_zero : (answer : Answer) → IsAccepted answer ⊎ (value_of answer ≡ 0)
accepted_or_zero (Ok given) = inl (record { given = given; is = refl })
accepted_or_zero (Err refusal) = inr refl

-- the number beside an answer that is no acceptance is 0
pub beside_a_refusal : (answer : Answer) → is_accepted answer ≡ false → value_of answer ≡ 0
beside_a_refusal answer refuses =
    ⊎_elim (λ accepted. absurd (true≢false (sym (ap is_accepted accepted.is) ∙ refuses))) (λ zero. zero) (accepted_or_zero answer)
