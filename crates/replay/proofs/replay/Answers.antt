-- `replay::replay` meets its contract, which is demand 3 of the very cells that it leaves.
use Prim.Native.Nat.{ℕ}
use mathlib.Core.Path.{◌≡◌, refl, ◌∙◌}
use mathlib.Core.List.{List, [], ◌∷◌}
use lib.ListN.{length}
use borrow.Author.Tests.{eq-eqb, ne_eqb}
use Rattle.answer.specs.Refusals.{Outcome}
use Rattle.machine.specs.Image.{cut_of}
use Rattle.machine.specs.State.{Machine}
use Rattle.recovery.specs.Recover.{recover_of}
use Rattle.machine.specs.Runs.{Step, step_with, after}
use Rattle.machine.specs.declared.Stepped.{Stepped}
use Rattle.replay.specs.Replay.{steps_of, replay_of, run_of}
use Rattle.atomicity.specs.History.{machine_after}
use Rattle.atomicity.proofs.Demand3Holds.{cut-writes, cut_recovers}
use Rattle.replay.proofs.replay.Goals as goal

-- a run ends in the machine after its steps
run-after : (stepped : Stepped) (steps : List Step) → (run_of stepped steps).machine ≡ after stepped.machine steps
unfolding run_of after
run-after stepped [] = refl
run-after stepped (step ∷ steps) = run-after (step_with stepped.machine step) steps

-- the run's machine, its cut and recovery of the image leave what demand 3 says
replayed :
    (words steps image cells : List ℕ) (machine : Machine) →
    machine ≡ machine_after words (steps_of steps) →
    length image ≡ 1156 →
    length cells ≡ 128 →
    (cut found : Outcome) →
    cut ≡ cut_of machine image →
    found ≡ recover_of cut.buffer cells →
    record { answer = found.answer; image = cut.buffer; cells = found.buffer } ≡ replay_of words steps image cells
unfolding replay_of
replayed words steps image cells machine is_after image_long cells_long cut found is_cut is_found =
    let final = machine_after words (steps_of steps) in
    let claim = cut_recovers words (steps_of steps) image cells image_long cells_long in
    let lent : cut ≡ cut_of final image = is_cut ∙ rw is_after in
    let recovered : found ≡ recover_of (cut_of final image).buffer cells = is_found ∙ rw lent in
    let image_whole = eq-eqb (length image) 1156 image_long in
    let cells_whole = eq-eqb (length cells) 128 cells_long in
    rw (recovered, lent, image_whole, cells_whole, claim.accepts, claim.cells, cut-writes final image image_long)

pub returns-then-image-ne-IMAGE_WORDS : goal.returns-then-image-ne-IMAGE_WORDS
unfolding replay_of
returns-then-image-ne-IMAGE_WORDS c = rw (ne_eqb _ 1156 c.if-image-ne-IMAGE_WORDS.true)

pub returns-then-cells-ne-CELLS : goal.returns-then-cells-ne-CELLS
unfolding replay_of
returns-then-cells-ne-CELLS c = rw (eq-eqb _ 1156 c.if-image-ne-IMAGE_WORDS.false, ne_eqb _ 128 c.if-cells-ne-CELLS.true)

pub returns : goal.returns
unfolding replay_of
returns c = let found = c.recover in
    let a = c.args in
    let cut = c.cut in
    let ran = c.run-stepped in
    replayed
    a.start.now
    a.steps.now
    a.image.now
    a.cells.now
    ran.result.machine
    (rw ran.ensures (run-after _ _))
    c.if-image-ne-IMAGE_WORDS.false
    c.if-cells-ne-CELLS.false
    (record { answer = cut.result; buffer = cut.new.image })
    (record { answer = found.result; buffer = found.new.cells })
    cut.ensures.image
    found.ensures
