-- Lists of steps: the machine after them, their answers, and which machines the start call and steps lead to.
use Rattle.std.specs.Prelude.{ℕ, ◌+◌, ◌*◌, ◌≡◌, List, [], ◌∷◌}
use Rattle.answer.specs.Lists.{tab}
use Rattle.answer.specs.Answer.{Answer}
use Rattle.cache.specs.Cache.{cell_count}
use Rattle.machine.specs.Holds.{start_of}
use Rattle.machine.specs.Steps.{step_of}
use Rattle.machine.specs.State.{Machine}
use Rattle.machine.specs.declared.Stepped.{Stepped}

-- "A step is kind, thread, place, value." Any words may stand in it.
pub record Step : Type 0 where
  pub kind : ℕ
  pub thread : ℕ
  pub place : ℕ
  pub value : ℕ

abbrev pub step_with : Machine → Step → Stepped
step_with machine step = step_of machine step.kind step.thread step.place step.value

-- the machine after a list of steps
unfoldable pub after : Machine → List Step → Machine
after machine [] = machine
after machine (step ∷ steps) = after (step_with machine step).machine steps

-- the answers of a list of steps
unfoldable pub answers : Machine → List Step → List Answer
answers machine [] = []
answers machine (step ∷ steps) =
    let stepped = step_with machine step in
    stepped.answer ∷ answers stepped.machine steps

-- the eviction of a line, once step 11: "eight EVICTCELL steps, lowest cell first" (document 02)
unfoldable pub evict_steps : ℕ → List Step
evict_steps line = tab 8 (λ index. record { kind = 13; thread = 0; place = line * 8 + index; value = 0 })

-- every cell evicted, the lowest first
unfoldable pub evict_all : List Step
evict_all = tab cell_count (λ cell. record { kind = 13; thread = 0; place = cell; value = 0 })

-- "Machine values come only from the start call and from steps; promises cover these."
pub record Reached (machine : Machine) : Type 0 where
  pub words : List ℕ
  pub steps : List Step
  pub leads : machine ≡ after (start_of words).machine steps
