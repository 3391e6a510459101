-- "Prove that machine and image after the eight are what the retired step gave. .. A bad field in such a text line is answered as before."
-- (document 02, of step 11, the eviction of a line)
use Rattle.std.specs.Prelude.{ℕ, ◌<◌, ◌≡◌, not, ◌||◌, List, [], ◌∷◌, replicate, eqb, ltb, Ok}
use Rattle.answer.specs.Refusals.{Test, ◌⇒◌, unless}
use Rattle.answer.specs.declared.Refusal.TheVariants.{NoSuchThread, NoSuchPlace, UnusedField}
use Rattle.cache.specs.Cache.{line_count, evict_of}
use Rattle.machine.specs.Effects.{accepted}
use Rattle.machine.specs.Holds.{with_cache}
use Rattle.machine.specs.Image.{image_of}
use Rattle.machine.specs.Runs.{after, answers, evict_steps, Reached}
use Rattle.machine.specs.Steps.{refused}
use Rattle.machine.specs.State.{Machine}
use Rattle.machine.specs.declared.Stepped.{Stepped}
use Rattle.script.specs.Script.{retired_kind, script_of}

-- what the retired step gave: "seen content becomes kept. Nothing becomes firm."
abbrev pub evicted_line : Machine → ℕ → Machine
evicted_line machine line = with_cache machine (evict_of machine.cache line)

-- the retired step's refusals: "2: thread over 3. 3: place over .. 15 (lines) .. 4: an unused field not 0", and "Unused fields are 0: value
-- in all but STORE, .. thread in 11"
unfoldable pub old_tests : ℕ → ℕ → ℕ → List Test
old_tests thread line value =
    (ltb 3 thread ⇒ NoSuchThread) ∷ (ltb 15 line ⇒ NoSuchPlace) ∷ (not (eqb thread 0) || not (eqb value 0) ⇒ UnusedField) ∷ []

-- the retired step as the machine had it
unfoldable pub retired_step : Machine → ℕ → ℕ → ℕ → Stepped
retired_step machine thread line value =
    unless (refused machine) (old_tests thread line value) (accepted 0 (evicted_line machine line))

-- the eight steps of a line are all accepted, with 0 beside, and leave the machine and the image that the retired step gave
pub record GivesRetired (machine : Machine) (line : ℕ) : Type 0 where
  pub all_accepted : answers machine (evict_steps line) ≡ replicate 8 (Ok 0)
  pub same_machine : after machine (evict_steps line) ≡ evicted_line machine line
  pub same_image : image_of (after machine (evict_steps line)) ≡ image_of (evicted_line machine line)

-- the claim, of every machine that steps lead to: the eight steps of a line, and a text line EVICT with any fields, do what the retired
-- step did
pub record RetiredEvict (machine : Machine) : Type 0 where
  pub eight : (line : ℕ) → line < line_count → GivesRetired machine line
  pub as_before : (thread place value : ℕ) → script_of machine retired_kind thread place value ≡ retired_step machine thread place value

abbrev pub RetiredEvicts : Type 0
RetiredEvicts = (machine : Machine) → Reached machine → RetiredEvict machine
