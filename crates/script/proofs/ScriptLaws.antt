-- Laws of a text line's steps: taken one after the other they are what the line does, and each is of a machine that steps lead to.
use Rattle.std.specs.Prelude.{Result, Ok, Err, IfOk}
use Prim.Native.Nat.{ℕ, zero, suc, ◌+◌, ◌*◌, ◌<◌}
use mathlib.Core.Path.{◌≡◌, refl, sym, ap, ap₂, ◌∙◌, subst⁻¹}
use mathlib.Core.Bool.{Bool, true, false, cond, not, ◌||◌, true≢false}
use native.Mathlib.Numerals.{add-one}
use native.Mathlib.Omega.{arith}
use lib.Dec.{eqb, ltb}
use borrow.Author.Tests.{ltb-true, eqb-true, not-false}
use Rattle.answer.specs.Answer.{Answer}
use Rattle.answer.specs.Lists.{tab}
use Rattle.answer.specs.Refusals.{unless, first_refusal}
use Rattle.answer.specs.declared.Refusal.{Refusal}
use Rattle.answer.proofs.ListLaws.{tab-last}
use Rattle.answer.proofs.RefusalLaws.{AllFail, unless-both, none-holds}
use Rattle.cache.specs.Cache.{line_count}
use Rattle.machine.specs.Effects.{accepted}
use Rattle.machine.specs.Runs.{Step, after, evict_steps, Reached}
use Rattle.machine.specs.Steps.{refused, step_of}
use Rattle.machine.specs.State.{Machine}
use Rattle.machine.specs.declared.Stepped.{Stepped}
use Rattle.machine.proofs.Evictions.{evict-cell-taken}
use Rattle.machine.proofs.Reaching.{after_then, after-reached}
use Rattle.script.specs.Script.{retired_kind, retired_tests, script_of, read_as, reading_of, taken_of, all_taken, TakesScript}
use Rattle.script.specs.declared.Reading.{Reading}

-- the line and the value of an EVICT line whose tests all failed
record GoodFields (place value : ℕ) : Type 0 where
  in_lines : place < line_count
  no_value : value ≡ 0

good_fields : (thread place value : ℕ) → AllFail (retired_tests thread place value) → GoodFields place value
good_fields thread place value fails = record {
  in_lines = ltb-true place line_count (not-false (ltb place line_count) fails.1.0);
  no_value = eqb-true value 0 (not-false (eqb value 0) (other-fails (not (eqb thread 0)) fails.1.1.0));
}
  where
    other-fails : (one : Bool) {other : Bool} → (one || other) ≡ false → other ≡ false
    other-fails true fails = absurd (true≢false fails)
    other-fails false fails = fails

-- the readings of an EVICT line with good fields, and of any other line
abbrev eight_steps : ℕ → Reading
eight_steps line = record { kind = 13; thread = 0; first = line * 8; count = 8 }

abbrev one_step : ℕ → ℕ → ℕ → Reading
one_step kind thread place = record { kind = kind; thread = thread; first = place; count = 1 }

-- the line of an EVICT that is accepted is one of the sixteen
pub read-line : (thread place value : ℕ) {given : ℕ} → first_refusal (retired_tests thread place value) ≡ Ok given → place < line_count
read-line thread place value accepted = (good_fields thread place value (none-holds (retired_tests thread place value) accepted).1).in_lines

-- the places of a reading's steps are words, where the line's own is
abbrev Fitting : Reading → Type 0
Fitting reading = (index : ℕ) → index < reading.count → reading.first + index < 18446744073709551616

reading-fits : (kind thread place value : ℕ) → place < 18446744073709551616 → IfOk (reading_of kind thread place value) Fitting
unfolding reading_of
reading-fits kind thread place value is_word = by_kind (eqb kind retired_kind)
  where
    by_answer : (answer : Answer) → first_refusal (retired_tests thread place value) ≡ answer → IfOk (read_as answer (eight_steps place)) Fitting
    by_answer (Ok given) accepted = λ index below. omega (arith, read-line thread place value accepted)
    by_answer (Err refusal) refused = tt

    by_kind : (is_retired : Bool) →
        IfOk
        (cond is_retired (read_as (first_refusal (retired_tests thread place value)) (eight_steps place)) (Ok (one_step kind thread place)))
        Fitting
    by_kind true = by_answer (first_refusal (retired_tests thread place value)) refl
    by_kind false = λ index below. omega arith

pub place-fits : (kind thread place value : ℕ) {reading : Reading} (index : ℕ) → Ok reading ≡ reading_of kind thread place value
    → place < 18446744073709551616 → index < reading.count → reading.first + index < 18446744073709551616
place-fits kind thread place value index read is_word =
    subst⁻¹ (λ (read : Result Reading Refusal). IfOk read Fitting) read (reading-fits kind thread place value is_word) index

-- ---- the steps of a reading

module _ (machine : Machine) (reading : Reading) (value : ℕ) where
  pub none-taken : taken_of machine reading value 0 ≡ record { answer = Ok 0; machine = machine }
  unfolding taken_of
  none-taken = refl

  -- one more of a reading's steps
  pub next-taken : (count : ℕ) →
      taken_of machine reading value (count + 1) ≡
      step_of (taken_of machine reading value count).machine reading.kind reading.thread (reading.first + count) value
  unfolding taken_of
  next-taken count = rw (add-one count)

  abbrev step_at : ℕ → Step
  step_at index = record { kind = reading.kind; thread = reading.thread; place = reading.first + index; value = value }

  -- the machine after so many of a reading's steps is that after the list of them
  taken-after : (count : ℕ) → (taken_of machine reading value count).machine ≡ after machine (tab count step_at)
  unfolding taken_of after tab
  taken-after zero = refl
  taken-after (suc count) =
      ap (λ (before : Machine). (step_of before reading.kind reading.thread (reading.first + count) value).machine)
      (taken-after count) ∙
      sym (ap (after machine) (tab-last count step_at) ∙ after_then machine (tab count step_at) (step_at count))

  -- each of the steps is of a machine that steps lead to
  pub taken-reached : (count : ℕ) → Reached machine → Reached (taken_of machine reading value count).machine
  taken-reached count reached = rw (taken-after count) (after-reached machine (tab count step_at) reached)

  -- one turn of a loop over the steps: a step from where the steps so far lead
  pub taken_more : (count : ℕ) {before : Machine} {stepped : Stepped} → before ≡ (taken_of machine reading value count).machine →
      stepped ≡ step_of before reading.kind reading.thread (reading.first + count) value →
      stepped ≡ taken_of machine reading value (count + 1)
  taken_more count so_far is =
      is ∙
      (ap (λ (before : Machine). step_of before reading.kind reading.thread (reading.first + count) value) so_far ∙
      sym (next-taken count))

-- the eight steps of a line are accepted
eight_taken : (machine : Machine) (line : ℕ) → line < line_count →
    taken_of machine (eight_steps line) 0 8 ≡ accepted 0 (after machine (evict_steps line))
unfolding evict_steps
eight_taken machine line within =
    let before : Machine = (taken_of machine (eight_steps line) 0 7).machine in
    ap₂ (λ (answer : Answer) (next : Machine). record { answer = answer; machine = next })
    (ap (λ (stepped : Stepped). stepped.answer)
    (next-taken machine (eight_steps line) 0 7 ∙ evict-cell-taken before (line * 8 + 7) (omega arith)))
    (taken-after machine (eight_steps line) 0 8)

-- to take all of a reading's steps is to do what the line does
pub takes_script : TakesScript
unfolding script_of reading_of first_refusal
takes_script machine kind thread place value = by_kind (eqb kind retired_kind)
  where
    by_kind : (is_retired : Bool) →
        all_taken machine
        (cond is_retired (read_as (first_refusal (retired_tests thread place value)) (eight_steps place)) (Ok (one_step kind thread place)))
        value ≡
        cond is_retired (unless (refused machine) (retired_tests thread place value) (accepted 0 (after machine (evict_steps place))))
        (step_of machine kind thread place value)
    by_kind true =
        unless-both
        (λ answer stepped. all_taken machine (read_as answer (eight_steps place)) value ≡ stepped)
        (λ answer. answer)
        (refused machine)
        (retired_tests thread place value)
        (Ok 0)
        (accepted 0 (after machine (evict_steps place)))
        (λ refusal. refl)
        (λ fails.
        let good = good_fields thread place value fails in
        rw good.no_value (eight_taken machine place good.in_lines))
    by_kind false =
        next-taken machine (one_step kind thread place) value 0 ∙
        rw (none-taken machine (one_step kind thread place) value)
        (ap (λ (at : ℕ). step_of machine kind thread at value) (omega arith))

-- what a line does leads to a machine that steps lead to
pub script_reached : (machine : Machine) (kind thread place value : ℕ) → Reached machine →
    Reached (script_of machine kind thread place value).machine
script_reached machine kind thread place value reached =
    rw (sym (takes_script machine kind thread place value)) (by_reading (reading_of kind thread place value))
  where
    by_reading : (read : Result Reading Refusal) → Reached (all_taken machine read value).machine
    by_reading (Ok reading) = taken-reached machine reading value reading.count reached
    by_reading (Err refusal) = reached

-- what code that takes a reading's steps leaves
pub took : (machine : Machine) (kind thread place value : ℕ) {read : Result Reading Refusal} → read ≡ reading_of kind thread place value →
    all_taken machine read value ≡ script_of machine kind thread place value
took machine kind thread place value read =
    ap (λ (read : Result Reading Refusal). all_taken machine read value) read ∙ takes_script machine kind thread place value
