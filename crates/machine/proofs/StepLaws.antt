-- A step either refuses and changes nothing, or every test of its kind failed and its effect happened.
use Rattle.std.specs.Prelude.{Err, Option, None, Some}
use Prim.Native.Nat.{ℕ}
use mathlib.Core.Path.{◌≡◌, refl, sym, ◌∙◌}
use mathlib.Core.Bool.{true, false, true≢false}
use mathlib.Core.List.{List, [], ◌∷◌, ◌++◌}
use Rattle.answer.specs.Answer.{is_accepted}
use Rattle.answer.specs.Refusals.{Test}
use Rattle.answer.specs.declared.Refusal.{Refusal}
use Rattle.answer.specs.declared.Refusal.TheVariants.{NoSuchKind}
use Rattle.answer.proofs.RefusalLaws.{AllFail, unless-cases}
use Rattle.machine.specs.Effects.{load_effect, first_log_effect, store_effect, acquire_effect, log_release_effect, release_effect}
use Rattle.machine.specs.Effects.{flush_effect, flush_log_effect, fence_effect, prune_effect, evict_log_effect, evict_cell_effect}
use Rattle.machine.specs.Effects.{evict_words_effect, effect}
use Rattle.kinds.specs.Kinds.{kind_of, input_tests}
use Rattle.kinds.specs.declared.Kind.{Kind}
use Rattle.kinds.specs.declared.Kind.TheVariants.{Load as LOAD, Log as LOG, Store as STORE, Acquire as ACQUIRE, LogRel as LOGREL}
use Rattle.kinds.specs.declared.Kind.TheVariants.{Release as RELEASE, Flush as FLUSH, FlushLog as FLUSHLOG, Fence as FENCE}
use Rattle.kinds.specs.declared.Kind.TheVariants.{Prune as PRUNE, EvictLog as EVICTLOG, EvictCell as EVICTCELL, EvictWords as EVICTWORDS}
use Rattle.machine.specs.Refusals.{state_tests}
use Rattle.machine.specs.Runs.{Step, step_with, after}
use Rattle.machine.specs.Steps.{refused, step_of_kind, step_of_option, step_of}
use Rattle.machine.specs.State.{Machine}
use Rattle.machine.specs.declared.Stepped.{Stepped}
use Rattle.machine.proofs.LogCases.{log_cases}

-- the tests of a step: of the input, then of the state
abbrev pub tests_of : Machine → Kind → ℕ → ℕ → ℕ → List Test
tests_of machine kind thread place value = input_tests kind thread place value ++ state_tests machine kind thread place

module _ (machine : Machine) (Q : Stepped → Type 0)
    (on_refusal : (refusal : Refusal) → Q (refused machine (Err refusal))) where
  kind-cases : (kind : Kind) (thread place value : ℕ)
      → (AllFail (tests_of machine kind thread place value) → Q (effect machine kind thread place value))
      → Q (step_of_kind machine kind thread place value)
  unfolding step_of_kind
  kind-cases kind thread place value on_effect =
      unless-cases
      Q
      (refused machine)
      (tests_of machine kind thread place value)
      (effect machine kind thread place value)
      on_refusal
      on_effect

  option_cases : (thread place value : ℕ) (found : Option Kind)
      → ((kind : Kind) → found ≡ Some kind → AllFail (tests_of machine kind thread place value) → Q (effect machine kind thread place value))
      → Q (step_of_option machine found thread place value)
  option_cases thread place value None on_effect = on_refusal NoSuchKind
  option_cases thread place value (Some kind) on_effect = kind-cases kind thread place value (on_effect kind refl)

  -- what holds of every refusal, and of each effect whose tests all failed, holds of the step
  pub step-cases : (number thread place value : ℕ)
      → ((kind : Kind) → kind_of number ≡ Some kind → AllFail (tests_of machine kind thread place value)
      → Q (effect machine kind thread place value))
      → Q (step_of machine number thread place value)
  unfolding step_of
  step-cases number thread place value on_effect = option_cases thread place value (kind_of number) on_effect

-- an effect's answer is acceptance
pub effect-accepted : (machine : Machine) (kind : Kind) (thread place value : ℕ) →
    is_accepted (effect machine kind thread place value).answer ≡ true
unfolding effect load_effect first_log_effect store_effect acquire_effect log_release_effect release_effect flush_effect
    flush_log_effect fence_effect prune_effect evict_log_effect evict_cell_effect evict_words_effect
effect-accepted machine LOAD thread place value = refl
effect-accepted machine LOG thread place value =
    log_cases (λ stepped. is_accepted stepped.answer ≡ true) machine thread place (λ is_nowhere. refl) (λ number is_at. refl)
effect-accepted machine STORE thread place value = refl
effect-accepted machine ACQUIRE thread place value = refl
effect-accepted machine LOGREL thread place value = refl
effect-accepted machine RELEASE thread place value = refl
effect-accepted machine FLUSH thread place value = refl
effect-accepted machine FLUSHLOG thread place value = refl
effect-accepted machine FENCE thread place value = refl
effect-accepted machine PRUNE thread place value = refl
effect-accepted machine EVICTLOG thread place value = refl
effect-accepted machine EVICTCELL thread place value = refl
effect-accepted machine EVICTWORDS thread place value = refl

-- a step that is refused changes nothing
pub refused-stays : (machine : Machine) (number thread place value : ℕ)
    → is_accepted (step_of machine number thread place value).answer ≡ false → (step_of machine number thread place value).machine ≡ machine
refused-stays machine number thread place value =
    step-cases
    machine
    (λ stepped. is_accepted stepped.answer ≡ false → stepped.machine ≡ machine)
    (λ refusal refuses. refl)
    number
    thread
    place
    value
    (λ kind is_kind fails refuses. absurd (true≢false (sym (effect-accepted machine kind thread place value) ∙ refuses)))

-- what each effect keeps, each step keeps
pub step_keeps : (P : Machine → Type 0) (machine : Machine) → P machine
    → ((kind : Kind) (thread place value : ℕ) → AllFail (tests_of machine kind thread place value)
    → P (effect machine kind thread place value).machine)
    → (number thread place value : ℕ) → P (step_of machine number thread place value).machine
step_keeps P machine holds on_effect number thread place value =
    step-cases
    machine
    (λ stepped. P stepped.machine)
    (λ refusal. holds)
    number
    thread
    place
    value
    (λ kind is_kind fails. on_effect kind thread place value fails)

-- what each effect keeps holds after every list of steps
pub after-keeps : (P : Machine → Type 0)
    → ((machine : Machine) → P machine → (kind : Kind) (thread place value : ℕ)
    → AllFail (tests_of machine kind thread place value) → P (effect machine kind thread place value).machine)
    → (machine : Machine) → P machine → (steps : List Step) → P (after machine steps)
unfolding after
after-keeps P on_effect machine holds [] = holds
after-keeps P on_effect machine holds (step ∷ steps) =
    after-keeps
    P
    on_effect
    (step_with machine step).machine
    (step_keeps
    P
    machine
    holds
    (on_effect machine holds)
    step.kind
    step.thread
    step.place
    step.value)
    steps
