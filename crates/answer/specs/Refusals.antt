-- Refusals as document 01 gives them: a list of tests in order, the first that holds decides, and where none holds the effect happens.
use Rattle.std.specs.Prelude.{ℕ, Bool, cond, ◌&&◌, List, [], ◌∷◌, Ok, Err}
use Rattle.answer.specs.Answer.{Answer}
use Rattle.answer.specs.declared.Refusal.{Refusal}

infix 20 ◌⇒◌
-- a test with the refusal that it gives
pub data Test : Type 0 where
  ◌⇒◌ : Bool → Refusal → Test

-- the refusal of the first test that holds, and the outcome where none does
unfoldable pub unless : {A : Type 0} → (Answer → A) → List Test → A → A
unless refuse [] outcome = outcome
unless refuse ((holds ⇒ refusal) ∷ tests) outcome = cond holds (refuse (Err refusal)) (unless refuse tests outcome)

-- tests that are asked only where this holds
abbrev pub guarded : Bool → List Test → List Test
guarded is_asked [] = []
guarded is_asked ((holds ⇒ refusal) ∷ tests) = (is_asked && holds ⇒ refusal) ∷ guarded is_asked tests

-- the refusal of the first test that holds, and acceptance where none does
unfoldable pub first_refusal : List Test → Answer
first_refusal tests = unless (λ answer. answer) tests (Ok 0)

-- what a function over a lent buffer leaves: its answer, and the words of the buffer
pub record Outcome : Type 0 where
  pub answer : Answer
  pub buffer : List ℕ
