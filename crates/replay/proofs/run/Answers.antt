-- `replay::run` meets its contract. The loop's invariant: what is left to run from here leads where the whole run leads.
use Prim.Native.Nat.{ℕ, suc, zero, ◌*◌, ◌/◌, ◌<◌}
use native.Mathlib.Numerals.{unary_clauses}
use native.Mathlib.Omega.{arith}
use mathlib.Core.Path.{◌≡◌, refl, sym, ap, ap₂, ◌∙◌}
use mathlib.Core.List.{List, [], ◌∷◌, ◌++◌}
use lib.ListN.{length}
use Rattle.machine.specs.Runs.{Step, step_with}
use Rattle.machine.specs.declared.Stepped.{Stepped}
use Rattle.replay.specs.Replay.{step_in, steps_from, steps_of, run_of}
use Rattle.replay.proofs.run.Goals as goal

-- the words of a step, with others after them
module _ (kind thread place value : ℕ) (rest : List ℕ) where
  abbrev words : List ℕ
  words = kind ∷ thread ∷ place ∷ value ∷ rest

  -- the later steps are those of the other words
  later : (number count : ℕ) → steps_from words (suc number) count ≡ steps_from rest number count
  unfolding steps_from
  later number zero = refl
  later number (suc count) =
      let at : (suc number) * 4 ≡ suc (suc (suc (suc (number * 4)))) = omega arith in
      ap₂ (λ (step : Step) (steps : List Step). step ∷ steps) (rw at (simp unary_clauses)) (later (suc number) count)

  next-of : steps_of words ≡ record { kind = kind; thread = thread; place = place; value = value } ∷ steps_of rest
  unfolding steps_of steps_from
  next-of =
      let more : length words / 4 ≡ suc (length rest / 4) = omega arith in
      rw more (ap (λ (steps : List Step). step_in words 0 ∷ steps) (later 0 (length rest / 4)))

-- a turn takes the first of the steps that are left
turn : (stepped : Stepped) (words rest all : List ℕ) → length words ≡ 4 → all ≡ words ++ rest →
    run_of stepped (steps_of all) ≡ run_of (step_with stepped.machine (step_in words 0)) (steps_of rest)
unfolding run_of
turn stepped (kind ∷ thread ∷ place ∷ value ∷ []) rest all four is = rw (is, next-of kind thread place value rest)
turn stepped [] rest all four is = absurd (omega arith)
turn stepped (kind ∷ []) rest all four is = absurd (omega arith)
turn stepped (kind ∷ thread ∷ []) rest all four is = absurd (omega arith)
turn stepped (kind ∷ thread ∷ place ∷ []) rest all four is = absurd (omega arith)
turn stepped (kind ∷ thread ∷ place ∷ value ∷ more ∷ words) rest all four is = absurd (omega arith)

-- no step is left of fewer than four words
none-left : (stepped : Stepped) (words : List ℕ) → length words < 4 → run_of stepped (steps_of words) ≡ stepped
unfolding steps_of steps_from run_of
none-left stepped words few =
    let none : length words / 4 ≡ 0 = omega arith in
    rw none refl

pub loop-words-init : goal.loop-words-init
loop-words-init c = record {
  size = rw c.into_iter-words-iterator.ensures.into_iter_gives c.chunks_exact-words-items.ensures.size;
  leads = rw (c.into_iter-words-iterator.ensures.into_iter_gives, c.chunks_exact-words-items.ensures.rest, c.start-stepped.ensures);
}

pub loop-words-preserved : goal.loop-words-preserved
loop-words-preserved c =
    let before = c.loop-words.invariant in
    let took = c.in-Some.ensures.steps in
    record {
      size = took.0 ∙ before.size;
      leads =
          rw c.step-stepped.ensures
          (sym (turn c.loop-words.stepped c.in-Some.words.now _ _ (took.1.1 ∙ before.size) took.1.0) ∙ before.leads);
    }

pub returns : goal.returns
returns c =
    let before = c.loop-words.invariant in
    sym (none-left c.loop-words.stepped _ (omega (arith, c.in-None.ensures.steps.1.0, before.size))) ∙ before.leads
