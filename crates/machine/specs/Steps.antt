-- A step of any kind with any four words: the refusals of the input, then those of the state, then the effect.
use Rattle.std.specs.Prelude.{ℕ, ◌++◌, Option, None, Some, Err}
use Rattle.answer.specs.Refusals.{unless}
use Rattle.answer.specs.Answer.{Answer}
use Rattle.answer.specs.declared.Refusal.TheVariants.{NoSuchKind}
use Rattle.machine.specs.Effects.{effect}
use Rattle.kinds.specs.Kinds.{kind_of, input_tests}
use Rattle.kinds.specs.declared.Kind.{Kind}
use Rattle.machine.specs.Refusals.{state_tests}
use Rattle.machine.specs.State.{Machine}
use Rattle.machine.specs.declared.Stepped.{Stepped}

-- a refusal: "no state or buffer changes and the number beside is 0"
abbrev pub refused : Machine → Answer → Stepped
refused machine answer = record { answer = answer; machine = machine }

-- the step of a known kind
unfoldable pub step_of_kind : Machine → Kind → ℕ → ℕ → ℕ → Stepped
step_of_kind machine kind thread place value =
    let taken = effect machine kind thread place value in
    unless (refused machine) (input_tests kind thread place value ++ state_tests machine kind thread place) taken

abbrev pub step_of_option : Machine → Option Kind → ℕ → ℕ → ℕ → Stepped
step_of_option machine None thread place value = refused machine (Err NoSuchKind)
step_of_option machine (Some kind) thread place value = step_of_kind machine kind thread place value

-- "A step is kind, thread, place, value."
unfoldable pub step_of : Machine → ℕ → ℕ → ℕ → ℕ → Stepped
step_of machine number thread place value = step_of_option machine (kind_of number) thread place value
