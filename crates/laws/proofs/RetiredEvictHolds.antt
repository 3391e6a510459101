-- The eight EVICTCELL steps of a line leave what the retired step 11 gave: each is accepted whatever the state, and the cells of a line,
-- evicted one after the other, are the line evicted.
use Rattle.std.specs.Prelude.{Ok}
use Prim.Native.Nat.{ℕ, zero, suc, ◌+◌, ◌*◌, ◌≤◌, ◌<◌}
use native.Mathlib.Decide.{dec_lt}
use native.Mathlib.Omega.{arith}
use mathlib.Core.Path.{◌≡◌, refl, sym, ap, ap₂, ◌∙◌, subst⁻¹}
use mathlib.Core.Bool.{Bool, not, ◌||◌}
use mathlib.Core.List.{List, [], ◌∷◌}
use mathlib.Core.Logic.{by_cases}
use lib.ListN.{replicate}
use lib.Dec.{eqb, ltb}
use borrow.Author.Tests.{lt-ltb, le-ltb}
use Rattle.answer.specs.Lists.{tab}
use Rattle.answer.specs.Answer.{Answer}
use Rattle.answer.specs.Refusals.{Test, ◌⇒◌, unless}
use Rattle.answer.specs.declared.Refusal.TheVariants.{NoSuchThread, NoSuchPlace, UnusedField}
use Rattle.answer.proofs.ListLaws.{tab-last}
use Rattle.cache.specs.Cache.{line_count}
use Rattle.cache.proofs.CacheLaws as CacheLaws
use Rattle.cache.proofs.CacheLaws.{evict_cells_of}
use Rattle.machine.specs.Effects.{accepted}
use Rattle.machine.specs.Holds.{with_cache}
use Rattle.machine.specs.Image.{image_of}
use Rattle.machine.specs.Runs.{Step, step_with, after, answers, evict_steps, Reached}
use Rattle.machine.specs.Steps.{refused, step_of}
use Rattle.machine.specs.State.{Machine}
use Rattle.machine.specs.declared.Stepped.{Stepped}
use Rattle.machine.proofs.Evictions.{evict-cell-taken, evict-cell-refused}
use Rattle.machine.proofs.Reaching.{after_then}
use Rattle.script.specs.Script.{retired_tests, script_of}
use Rattle.atomicity.proofs.RunInvariantHolds.{after_run}
use Rattle.laws.specs.RetiredEvict.{evicted_line, old_tests, retired_step, GivesRetired, RetiredEvicts}

-- a machine that steps lead to has 128 cells, cached and persisted
pub cache-sized : (machine : Machine) → Reached machine → CacheLaws.Sized machine.cache
cache-sized machine reached =
    subst⁻¹ (λ (machine : Machine). CacheLaws.Sized machine.cache) reached.leads
    (after_run reached.words reached.steps).machine_holds.cache_sized

-- steps that every machine accepts with 0
all-accepted : (count : ℕ) (steps : ℕ → Step) →
    ((machine : Machine) (index : ℕ) → index < count → (step_with machine (steps index)).answer ≡ Ok 0) →
    (machine : Machine) → answers machine (tab count steps) ≡ replicate count (Ok 0)
unfolding answers tab
all-accepted zero steps accepts machine = refl
all-accepted (suc count) steps accepts machine =
    ap₂ (λ (answer : Answer) (others : List Answer). answer ∷ others) (accepts machine 0 (omega arith))
    (all-accepted count (λ index. steps (suc index)) (λ machine index below. accepts machine (suc index) (omega arith))
    (step_with machine (steps 0)).machine)

module _ (machine : Machine) (line : ℕ) where
  -- one of the eight steps
  abbrev cell_step : ℕ → Step
  cell_step index = record { kind = 13; thread = 0; place = line * 8 + index; value = 0 }

  -- one step more
  then-step : (count : ℕ) →
      after machine (tab (suc count) cell_step) ≡ (step_of (after machine (tab count cell_step)) 13 0 (line * 8 + count) 0).machine
  then-step count = ap (after machine) (tab-last count cell_step) ∙ after_then machine (tab count cell_step) (cell_step count)

  -- after so many steps so many cells of the line are evicted
  cells_evicted : line < line_count → (count : ℕ) → count ≤ 8 →
      after machine (tab count cell_step) ≡ with_cache machine (evict_cells_of machine.cache line count)
  unfolding after tab evict_cells_of
  cells_evicted within zero most = refl
  cells_evicted within (suc count) most =
      then-step count ∙
      (ap (λ (before : Machine). (step_of before 13 0 (line * 8 + count) 0).machine) (cells_evicted within count (omega arith)) ∙
      ap (λ (stepped : Stepped). stepped.machine)
      (evict-cell-taken (with_cache machine (evict_cells_of machine.cache line count)) (line * 8 + count) (omega arith)))

  -- the cells of a line that is out of range are refused
  none-evicted : line_count ≤ line → (count : ℕ) → after machine (tab count cell_step) ≡ machine
  unfolding after tab
  none-evicted past zero = refl
  none-evicted past (suc count) =
      then-step count ∙
      (ap (λ (before : Machine). (step_of before 13 0 (line * 8 + count) 0).machine) (none-evicted past count) ∙
      ap (λ (stepped : Stepped). stepped.machine) (evict-cell-refused machine (line * 8 + count) (omega arith)))

  -- the eight steps of any line, in range or not, where the machine's cells are 128
  pub line-evicted : CacheLaws.Sized machine.cache → after machine (evict_steps line) ≡ evicted_line machine line
  unfolding evict_steps
  line-evicted sized =
      by_cases (dec_lt line line_count)
      (λ within.
      cells_evicted within 8 (omega arith) ∙ ap (with_cache machine) (sym (CacheLaws.evict_of-cells machine.cache sized line within)))
      (λ past.
      none-evicted (omega arith) 8 ∙
      ap (with_cache machine) (sym (CacheLaws.evict_of-out machine.cache sized line (omega arith))))

  gives-retired : Reached machine → line < line_count → GivesRetired machine line
  unfolding evict_steps
  gives-retired reached within =
      let same = line-evicted (cache-sized machine reached) in
      record {
        all_accepted =
            all-accepted 8 cell_step
            (λ machine index below.
            ap (λ (stepped : Stepped). stepped.answer) (evict-cell-taken machine (line * 8 + index) (omega arith)))
            machine;
        same_machine = same;
        same_image = ap image_of same;
      }

-- a word that is not below the number after another is over that one
over : (most word : ℕ) → not (ltb word (suc most)) ≡ ltb most word
over most word =
    by_cases (dec_lt most word)
    (λ past. rw (lt-ltb most word past, le-ltb word (suc most) past))
    (λ within. rw (le-ltb most word (omega arith), lt-ltb word (suc most) (omega arith)))

-- a text line EVICT is asked what the retired step was
same_tests : (thread place value : ℕ) → retired_tests thread place value ≡ old_tests thread place value
unfolding old_tests
same_tests thread place value =
    ap₂ (λ (no_thread no_place : Bool). (no_thread ⇒ NoSuchThread) ∷ (no_place ⇒ NoSuchPlace) ∷
    (not (eqb thread 0) || not (eqb value 0) ⇒ UnusedField) ∷ []) (over 3 thread) (over 15 place)

pub retired_evicts : RetiredEvicts
unfolding script_of retired_step
retired_evicts machine reached = record {
  eight = λ line within. gives-retired machine line reached within;
  as_before = λ thread place value.
      let same = line-evicted machine place (cache-sized machine reached) in
      ap₂ (λ (tests : List Test) (next : Machine). unless (refused machine) tests (accepted 0 next)) (same_tests thread place value) same;
}
