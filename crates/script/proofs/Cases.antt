-- The readings of a text line, case by case: of an EVICT line that is refused, of one that is not, and of any other line.
use Rattle.std.specs.Prelude.{Result, Ok, Err}
use Prim.Native.Nat.{ℕ, ◌*◌, ◌<◌}
use mathlib.Core.Path.{◌≡◌, refl}
use mathlib.Core.Bool.{Bool, true, false, cond, not, ◌||◌, true≢false}
use lib.Dec.{eqb}
use borrow.Author.Tests.{eqb-true, eq-eqb, not-false}
use Rattle.answer.specs.Answer.{Answer, number_of}
use Rattle.answer.specs.Refusals.{first_refusal}
use Rattle.answer.specs.declared.Refusal.{Refusal}
use Rattle.answer.proofs.RefusalLaws.{none-holds, not-zero}
use Rattle.cache.specs.Cache.{line_count}
use Rattle.script.specs.Script.{retired_kind, retired_tests, read_as, reading_of}
use Rattle.script.specs.declared.Reading.{Reading}
use Rattle.script.proofs.ScriptLaws.{read-line}

-- the eight steps of an EVICT line, and the one of any other line
abbrev pub eight_steps : ℕ → Reading
eight_steps line = record { kind = 13; thread = 0; first = line * 8; count = 8 }

abbrev pub one_step : ℕ → ℕ → ℕ → Reading
one_step kind thread place = record { kind = kind; thread = thread; first = place; count = 1 }

-- the line and the value of an EVICT line whose tests all failed
pub record GoodFields (place value : ℕ) : Type 0 where
  pub in_lines : place < line_count
  pub no_value : value ≡ 0

good_fields : (thread place value : ℕ) {given : ℕ} → first_refusal (retired_tests thread place value) ≡ Ok given → GoodFields place value
good_fields thread place value accepted = record {
  in_lines = read-line thread place value accepted;
  no_value = eqb-true value 0 (not-false (eqb value 0)
      (other-fails (not (eqb thread 0)) (none-holds (retired_tests thread place value) accepted).1.1.1.0));
}
  where
    other-fails : (one : Bool) {other : Bool} → (one || other) ≡ false → other ≡ false
    other-fails true fails = absurd (true≢false fails)
    other-fails false fails = fails

-- what holds of every refusal, of the eight steps of an EVICT line with good fields, and of the one step of a line holds of every reading
pub reading-cases : (Q : Result Reading Refusal → Type 0) (kind thread place value : ℕ)
    → ((refusal : Refusal) → Q (Err refusal)) → (GoodFields place value → Q (Ok (eight_steps place)))
    → Q (Ok (one_step kind thread place)) → Q (reading_of kind thread place value)
unfolding reading_of
reading-cases Q kind thread place value on_none on_eight on_one = by_kind (eqb kind retired_kind)
  where
    by_answer : (answer : Answer) → first_refusal (retired_tests thread place value) ≡ answer → Q (read_as answer (eight_steps place))
    by_answer (Ok given) accepted = on_eight (good_fields thread place value accepted)
    by_answer (Err refusal) refused = on_none refusal

    by_kind : (is_retired : Bool) →
        Q
        (cond is_retired (read_as (first_refusal (retired_tests thread place value)) (eight_steps place))
        (Ok (one_step kind thread place)))
    by_kind true = by_answer (first_refusal (retired_tests thread place value)) refl
    by_kind false = on_one

-- a first refusal that is acceptance or not, and the reading that the same tests decide
abbrev pub Tells : ℕ → Answer → Result Reading Refusal → Type 0
Tells place first reading =
    (number_of first ≡ 0 → Ok (eight_steps place) ≡ reading) × ((refusal : Refusal) → first ≡ Err refusal → Err refusal ≡ reading)

-- an EVICT line by the first refusal of its tests: where that is acceptance it is read as the eight steps, and as the refusal where not
pub told : (kind thread place value : ℕ) → kind ≡ retired_kind → {answer : Answer} →
    answer ≡ first_refusal (retired_tests thread place value) → Tells place answer (reading_of kind thread place value)
unfolding reading_of
told kind thread place value is_retired {answer} asked =
    rw (← asked, eq-eqb kind retired_kind is_retired) (by_answer answer)
  where
    by_answer : (first : Answer) → Tells place first (read_as first (eight_steps place))
    by_answer (Ok given) = ((λ is_zero. refl), (λ refusal refused. cc))
    by_answer (Err refusal) = ((λ is_zero. absurd (not-zero refusal is_zero)), (λ other refused. cc))
