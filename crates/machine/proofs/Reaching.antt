-- The machines of the start call and of steps are reached: what code over the methods hands on from call to call.
use Prim.Native.Nat.{ℕ}
use mathlib.Core.Path.{◌≡◌, refl, ap, ◌∙◌, subst⁻¹}
use mathlib.Core.List.{List, [], ◌∷◌, ◌++◌}
use lib.ListN.{length}
use borrow.Author.Tests.{eq-eqb}
use Rattle.cache.specs.Cache.{cell_count}
use Rattle.machine.specs.Holds.{fresh_machine, start_of}
use Rattle.machine.specs.Runs.{Step, step_with, after, Reached}
use Rattle.machine.specs.Steps.{step_of}
use Rattle.machine.specs.State.{Machine}
use Rattle.machine.specs.declared.Stepped.{Stepped}

-- one step more at the end of a list
pub after_then : (machine : Machine) (steps : List Step) (step : Step)
    → after machine (steps ++ (step ∷ [])) ≡ (step_with (after machine steps) step).machine
unfolding after
after_then machine [] step = refl
after_then machine (first ∷ steps) step = after_then (step_with machine first).machine steps step

-- a list of steps after another
pub after_append : (machine : Machine) (steps others : List Step) → after machine (steps ++ others) ≡ after (after machine steps) others
unfolding after
after_append machine [] others = refl
after_append machine (step ∷ steps) others = after_append (step_with machine step).machine steps others

-- the start call's machine, where its words are 128
pub fresh-reached : (cells : List ℕ) → length cells ≡ cell_count → Reached (fresh_machine cells)
unfolding start_of after
fresh-reached cells long = record { words = cells; steps = []; leads = rw (eq-eqb (length cells) cell_count long) }

pub step-reached : (machine : Machine) (kind thread place value : ℕ) → Reached machine
    → Reached (step_of machine kind thread place value).machine
step-reached machine kind thread place value reached =
    let step : Step = record { kind = kind; thread = thread; place = place; value = value } in
    record {
      words = reached.words;
      steps = reached.steps ++ (step ∷ []);
      leads =
          ap (λ (before : Machine). (step_with before step).machine) reached.leads ∙
          rw (after_then (start_of reached.words).machine reached.steps step);
    }

-- what a method leaves of a machine's fields is reached, where it is what a step leaves
pub step-closes : {machine : Machine} (kind thread place value : ℕ) {stepped : Stepped} → Reached machine
    → stepped ≡ step_of machine kind thread place value → Reached stepped.machine
step-closes kind thread place value reached is =
    subst⁻¹ (λ (stepped : Stepped). Reached stepped.machine) is (step-reached _ kind thread place value reached)

pub after-reached : (machine : Machine) (steps : List Step) → Reached machine → Reached (after machine steps)
unfolding after
after-reached machine [] reached = reached
after-reached machine (step ∷ steps) reached =
    after-reached (step_with machine step).machine steps
    (step-reached machine step.kind step.thread step.place step.value reached)
