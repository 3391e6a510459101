-- LOAD, asked of the accesses, the thread's clock and the cell's content.
use Rattle.std.specs.Prelude.{Ok, ℕ, not, List, [], ◌∷◌, get_or}
use Rattle.answer.specs.Answer.{Answer}
use Rattle.answer.specs.Refusals.{Test, ◌⇒◌, unless}
use Rattle.answer.specs.declared.Refusal.TheVariants.{Race}
use Rattle.clocks.specs.Clocks.{clock_at, is_known}
use Rattle.accesses.specs.Accesses.{loaded_of}
use Rattle.accesses.specs.declared.Accesses.{Accesses}
use Rattle.clocks.specs.declared.Clock.{Clock}

-- a LOAD's answer, beside the accesses after it
pub record Loaded : Type 0 where
  pub answer : Answer
  pub accesses : Accesses

-- LOAD 8: the cell's last LOG does not happen before it. (Accepted LOGs of a cell are in order, so the last one decides.)
abbrev pub load_tests_on : Accesses → Clock → ℕ → List Test
load_tests_on accesses clock cell =
    (not (is_known clock (get_or accesses.logged cell 0) (get_or accesses.loggers cell 0)) ⇒ Race) ∷ []

-- "LOAD cell: answers its seen content."
unfoldable pub load_on : Accesses → Clock → ℕ → ℕ → ℕ → Loaded
load_on accesses clock thread cell content =
    unless
    (λ answer. record { answer = answer; accesses = accesses })
    (load_tests_on accesses clock cell)
    (record { answer = Ok content; accesses = loaded_of accesses thread cell (clock_at clock thread) })
