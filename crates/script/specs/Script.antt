-- What a text line does. Document 02, of the retired step 11: "The listing program reads it in old listings as eight EVICTCELL steps,
-- lowest cell first, and prints one line for them with answer 0. .. A bad field in such a text line is answered as before."
use Rattle.std.specs.Prelude.{ℕ, zero, suc, ◌+◌, ◌*◌, ◌≡◌, cond, not, ◌||◌, List, eqb, ltb, Result, Ok, Err}
use Rattle.answer.specs.Answer.{Answer}
use Rattle.answer.specs.Refusals.{Test, unless, first_refusal}
use Rattle.answer.specs.declared.Refusal.{Refusal}
use Rattle.cache.specs.Cache.{line_count}
use Rattle.kinds.specs.Kinds.{field_tests}
use Rattle.machine.specs.Effects.{accepted}
use Rattle.machine.specs.Runs.{after, evict_steps}
use Rattle.machine.specs.Steps.{refused, step_of}
use Rattle.machine.specs.State.{Machine}
use Rattle.machine.specs.declared.Stepped.{Stepped}
use Rattle.script.specs.declared.Reading.{Reading}

-- the number that the name EVICT has in a text line
abbrev pub retired_kind : ℕ
retired_kind = 11

-- the tests of such a line: 2, 3 of a place over 15, and 4 of a thread or value that is not 0
abbrev pub retired_tests : ℕ → ℕ → ℕ → List Test
retired_tests thread place value = field_tests thread (not (ltb place line_count)) (not (eqb thread 0) || not (eqb value 0))

-- what a text line does to a machine, and the answer that is printed for it: the step that it says, or for EVICT the eight
unfoldable pub script_of : Machine → ℕ → ℕ → ℕ → ℕ → Stepped
script_of machine kind thread place value =
    cond (eqb kind retired_kind)
    (unless (refused machine) (retired_tests thread place value) (accepted 0 (after machine (evict_steps place))))
    (step_of machine kind thread place value)

-- a line's steps, where its tests let it pass
abbrev pub read_as : Answer → Reading → Result Reading Refusal
read_as (Ok given) reading = Ok reading
read_as (Err refusal) reading = Err refusal

-- the same as numbers: how many steps, of which kind and thread, from which place on; or the refusal where there is none
unfoldable pub reading_of : ℕ → ℕ → ℕ → ℕ → Result Reading Refusal
reading_of kind thread place value =
    cond (eqb kind retired_kind)
    (read_as (first_refusal (retired_tests thread place value)) (record { kind = 13; thread = 0; first = place * 8; count = 8 }))
    (Ok (record { kind = kind; thread = thread; first = place; count = 1 }))

-- the first so many of a reading's steps, with the line's value, place after place: the last one's answer and the machine after it
unfoldable pub taken_of : Machine → Reading → ℕ → ℕ → Stepped
taken_of machine reading value zero = record { answer = Ok 0; machine = machine }
taken_of machine reading value (suc count) =
    step_of (taken_of machine reading value count).machine reading.kind reading.thread (reading.first + count) value

-- all of a reading's steps; or the refusal, which changes nothing
abbrev pub all_taken : Machine → Result Reading Refusal → ℕ → Stepped
all_taken machine (Ok reading) value = taken_of machine reading value reading.count
all_taken machine (Err refusal) value = refused machine (Err refusal)

-- the claim: to take all of a reading's steps is to do what the line does
abbrev pub TakesScript : Type 0
TakesScript =
    (machine : Machine) (kind thread place value : ℕ) →
    all_taken machine (reading_of kind thread place value) value ≡ script_of machine kind thread place value
