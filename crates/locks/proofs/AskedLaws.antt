-- Code that asks for the first refusal of a step's tests and goes on by what it says.
use Rattle.std.specs.Prelude.{Ok, Err}
use Prim.Native.Nat.{ℕ}
use mathlib.Core.Path.{◌≡◌, refl, sym, ◌∙◌}
use mathlib.Core.List.{List}
use Rattle.answer.specs.Answer.{Answer}
use Rattle.answer.specs.Refusals.{Test, unless, first_refusal}
use Rattle.answer.specs.declared.Refusal.{Refusal}
use Rattle.answer.proofs.RefusalLaws.{one-stops, none-stops}

module _ {A : Type 0} (refuse : Answer → A) (outcome : A) (tests : List Test) {asked : Answer} (is_asked : asked ≡ first_refusal tests) where
  -- a test held, and the step is refused by it
  pub asked-refused : {refusal : Refusal} → asked ≡ Err refusal → refuse (Err refusal) ≡ unless refuse tests outcome
  unfolding first_refusal
  asked-refused is_refused =
      sym
      (one-stops refuse outcome (λ answer. answer) (Ok 0) (λ answer. answer) (λ refusal. refl) tests refl (sym is_asked ∙ is_refused))

  -- no test held, and the step is taken
  pub asked-accepted : {given : ℕ} → asked ≡ Ok given → outcome ≡ unless refuse tests outcome
  unfolding first_refusal
  asked-accepted is_accepted =
      sym (none-stops refuse outcome (λ answer. answer) (Ok 0) (λ answer. answer) (λ refusal. refl) tests (sym is_asked ∙ is_accepted)).0
