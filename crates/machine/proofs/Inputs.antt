-- A step whose input's answer is known: refused with it, or decided by the tests of the state.
use Rattle.std.specs.Prelude.{Ok, Err, Option, None, Some}
use Rattle.std.specs.Result.{IsErrAnd}
use Rattle.std.proofs.lemmas.Result.{err_from_is_err_and}
use Prim.Native.Nat.{ℕ}
use mathlib.Core.Path.{◌≡◌, sym, ap, ◌∙◌}
use Rattle.answer.specs.Answer.{Answer}
use Rattle.answer.specs.Refusals.{unless, first_refusal}
use Rattle.answer.specs.declared.Refusal.{Refusal}
use Rattle.answer.proofs.RefusalLaws.{stops, goes_on}
use Rattle.kinds.specs.Kinds.{kind_of, input_tests, input_answer}
use Rattle.kinds.specs.declared.Kind.{Kind}
use Rattle.machine.specs.Effects.{effect}
use Rattle.machine.specs.Refusals.{state_tests}
use Rattle.machine.specs.Steps.{refused, step_of_kind, step_of_option, step_of}
use Rattle.machine.specs.State.{Machine}
use Rattle.machine.specs.declared.Stepped.{Stepped}

module _ (machine : Machine) (thread place value : ℕ) where
  refused-option : (found : Option Kind) {refusal : Refusal} → input_answer found thread place value ≡ Err refusal
      → step_of_option machine found thread place value ≡ refused machine (Err refusal)
  unfolding step_of_kind
  refused-option None is_refused = ap (refused machine) is_refused
  refused-option (Some kind) is_refused =
      stops
      (refused machine)
      (effect machine kind thread place value)
      (state_tests machine kind thread place)
      (input_tests kind thread place value)
      is_refused

  pub input-refused : (number : ℕ) {refusal : Refusal} → input_answer (kind_of number) thread place value ≡ Err refusal
      → step_of machine number thread place value ≡ refused machine (Err refusal)
  unfolding step_of
  input-refused number is_refused = refused-option (kind_of number) is_refused

  pub input-accepted : (number : ℕ) (kind : Kind) → kind_of number ≡ Some kind
      → {given : ℕ} → first_refusal (input_tests kind thread place value) ≡ Ok given
      → step_of machine number thread place value ≡
      unless (refused machine) (state_tests machine kind thread place) (effect machine kind thread place value)
  unfolding step_of step_of_kind
  input-accepted number kind is_kind accepted =
      rw is_kind
      (goes_on
      (refused machine)
      (effect machine kind thread place value)
      (state_tests machine kind thread place)
      (input_tests kind thread place value)
      accepted)

  -- the exit of a method whose input is refused
  pub input-exit : (number : ℕ) (kind : Kind) → kind_of number ≡ Some kind
      → {refusal : Refusal} → Err refusal ≡ first_refusal (input_tests kind thread place value)
      → (answer : Answer) → IsErrAnd answer (λ given. given ≡ refusal)
      → ◌≡◌ {A = Stepped} (record { answer = answer; machine = machine }) (step_of machine number thread place value)
  input-exit number kind is_kind {refusal = refusal} is_refused answer exits =
      let given = err_from_is_err_and answer exits in
      let asked : input_answer (kind_of number) thread place value ≡ Err refusal = rw is_kind (sym is_refused) in
      ap (refused machine) (given.1 ∙ ap Err given.2) ∙ sym (input-refused number asked)
