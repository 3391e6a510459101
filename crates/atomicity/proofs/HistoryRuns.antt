-- Runs with their history: what a start call has, and each refused step and each effect keeps, holds of every machine and history that
-- steps lead to.
use Prim.Native.Nat.{ℕ, ◌<◌}
use mathlib.Core.Path.{◌≡◌, refl, ◌∙◌, ap}
use mathlib.Core.Bool.{Bool, true, false, cond}
use mathlib.Core.List.{List, [], ◌∷◌, ◌++◌, append_assoc, append-nil}
use Rattle.std.specs.Prelude.{Option, Some}
use lib.Dec.{eqb}
use borrow.Author.Tests.{ltb-true, eqb-true, not-false}
use Rattle.sizes.specs.Sizes.{thread_count}
use Rattle.answer.specs.Answer.{is_accepted}
use Rattle.answer.proofs.RefusalLaws.{AllFail, all_fail_right}
use Rattle.machine.specs.Effects.{effect}
use Rattle.std.proofs.lemmas.Option.{none-some}
use Rattle.kinds.specs.Kinds.{kind_of, fields_of, is_over, count_tests, input_tests}
use Rattle.kinds.specs.declared.Kind.{Kind}
use Rattle.kinds.specs.declared.Kind.TheVariants.{Load as LOAD, Log as LOG, Store as STORE, Acquire as ACQUIRE, LogRel as LOGREL}
use Rattle.kinds.specs.declared.Kind.TheVariants.{Release as RELEASE, Flush as FLUSH, FlushLog as FLUSHLOG, Fence as FENCE, Prune as PRUNE}
use Rattle.kinds.specs.declared.Kind.TheVariants.{EvictLog as EVICTLOG, EvictCell as EVICTCELL, EvictWords as EVICTWORDS}
use Rattle.machine.specs.Refusals.{state_tests}
use Rattle.machine.specs.Runs.{Step, step_with, after}
use Rattle.machine.specs.State.{Machine}
use Rattle.machine.proofs.StepLaws.{tests_of, step-cases, effect-accepted}
use Rattle.atomicity.specs.History.{Fed, fed_with, history_of}
use Rattle.atomicity.proofs.Ordered.{and_then}

-- the number of a kind
abbrev pub kind_number : Kind → ℕ
kind_number LOAD = 1
kind_number LOG = 2
kind_number STORE = 3
kind_number ACQUIRE = 4
kind_number LOGREL = 5
kind_number RELEASE = 6
kind_number FLUSH = 7
kind_number FLUSHLOG = 8
kind_number FENCE = 9
kind_number PRUNE = 10
kind_number EVICTLOG = 12
kind_number EVICTCELL = 13
kind_number EVICTWORDS = 14

-- a number that has a kind is that kind's
pub kind-number : (number : ℕ) (kind : Kind) → kind_of number ≡ Some kind → number ≡ kind_number kind
unfolding kind_of
kind-number number kind is_kind =
    pick LOAD (pick LOG
    (pick STORE (pick ACQUIRE
    (pick LOGREL
    (pick RELEASE
    (pick FLUSH (pick FLUSHLOG
    (pick FENCE (pick PRUNE
    (pick EVICTLOG
    (pick EVICTCELL (pick EVICTWORDS (λ is_none. absurd (none-some kind is_none)))))))))))))) is_kind
  where
    pick : (found : Kind) {rest : Option Kind} → (rest ≡ Some kind → number ≡ kind_number kind) →
        cond (eqb number (kind_number found)) (Some found) rest ≡ Some kind → number ≡ kind_number kind
    pick found {rest} other is_kind = by-test (eqb number (kind_number found)) refl is_kind
      where
        by-test : (test : Bool) → eqb number (kind_number found) ≡ test → cond test (Some found) rest ≡ Some kind → number ≡ kind_number kind
        by-test true is_found is_kind =
            let same_kind : found ≡ kind = cc in eqb-true number (kind_number found) is_found ∙ ap kind_number same_kind
        by-test false is_else is_kind = other is_kind

-- the step of a kind, accepted
abbrev pub took_step : Kind → ℕ → ℕ → ℕ → Fed
took_step kind thread place value = record { kind = kind_number kind; thread = thread; place = place; value = value; accepted = true }

-- what the tests that all failed tell
module _ (machine : Machine) (kind : Kind) (thread place value : ℕ) (fails : AllFail (tests_of machine kind thread place value)) where
  pub thread-in-range : thread < thread_count
  unfolding input_tests
  thread-in-range = ltb-true _ _ (not-false _ fails.0)

  pub place-in-range : is_over (fields_of kind).place place ≡ false
  unfolding input_tests
  place-in-range = fails.1.0

  pub state-fails : AllFail (state_tests machine kind thread place)
  unfolding input_tests
  state-fails = all_fail_right (count_tests (fields_of kind).value value) (state_tests machine kind thread place) fails.1.1.1

-- what is kept by each refused step and by each effect whose tests all failed
module _ (P : Machine → List Fed → Type 0)
    (on_refusal : (machine : Machine) (history : List Fed) → P machine history → (next : Fed) → next.accepted ≡ false →
    P machine (and_then history next))
    (on_effect : (machine : Machine) (history : List Fed) → P machine history → (kind : Kind) (thread place value : ℕ) →
    AllFail (tests_of machine kind thread place value) →
    P (effect machine kind thread place value).machine (and_then history (took_step kind thread place value))) where
  -- what each refused step and each effect keeps, every step keeps
  pub step-keeps-history : (machine : Machine) (history : List Fed) → P machine history → (step : Step) →
      P (step_with machine step).machine (and_then history (fed_with step (is_accepted (step_with machine step).answer)))
  step-keeps-history machine history holds step =
      step-cases
      machine
      (λ stepped. P stepped.machine (and_then history (fed_with step (is_accepted stepped.answer))))
      (λ refusal. on_refusal machine history holds (fed_with step false) refl)
      step.kind
      step.thread
      step.place
      step.value
      (λ kind is_kind fails.
      rw
      (effect-accepted machine kind step.thread step.place step.value, kind-number step.kind kind is_kind)
      (on_effect machine history holds kind step.thread step.place step.value fails))

  -- what each refused step and each effect keeps, every list of steps keeps
  pub run-keeps : (machine : Machine) (history : List Fed) → P machine history → (steps : List Step) →
      P (after machine steps) (history ++ history_of machine steps)
  unfolding after history_of
  run-keeps machine history holds [] = rw append-nil holds
  run-keeps machine history holds (step ∷ steps) =
      rw append_assoc at
      (run-keeps
      (step_with machine step).machine
      (and_then history (fed_with step (is_accepted (step_with machine step).answer)))
      (step-keeps-history machine history holds step)
      steps)
