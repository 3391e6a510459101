-- What the number that FENCE answers tells: a wasted fence.
use Rattle.std.specs.Prelude.{ℕ, ◌<◌, ◌≡◌, List, eqb}
use Rattle.sizes.specs.Sizes.{thread_count}
use Rattle.answer.specs.Answer.{value_of}
use Rattle.machine.specs.Runs.{Step}
use Rattle.machine.specs.Steps.{step_of}
use Rattle.atomicity.specs.History.{machine_after}
use Rattle.laws.specs.RefusalLaws.{Decides}

-- document 02's "wasted fences": after any steps, the number that a thread's FENCE (9) answers is 0 exactly when the FENCE leaves the
-- machine as it was
abbrev pub WastedFence : Type 0
WastedFence =
    (words : List ℕ) (steps : List Step) (thread : ℕ) →
    thread < thread_count →
    let machine = machine_after words steps in
    let fenced = step_of machine 9 thread 0 0 in
    Decides (eqb (value_of fenced.answer) 0) (fenced.machine ≡ machine)
