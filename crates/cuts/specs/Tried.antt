-- At a cut, "every choice of the data lines whose seen and kept contents differ, at most the 8 lowest, evicted just before".
use Rattle.std.specs.Prelude.{Ok}
use Rattle.std.specs.Prelude.{ℕ, ◌≡◌, List, [], map, replicate}
use Rattle.answer.specs.Refusals.{Outcome}
use Rattle.cache.specs.Cache.{cell_count}
use Rattle.machine.specs.Image.{image_of}
use Rattle.machine.specs.Runs.{after, Reached}
use Rattle.machine.specs.State.{Machine}
use Rattle.recovery.specs.Recover.{recover_of}
use Rattle.laws.specs.AnyEviction.{evictions}
use Rattle.choices.specs.Choices.{lowest_lines, choices_of}

-- the lines of which every choice is tried
abbrev pub tried_lines : Machine → List ℕ
tried_lines machine = lowest_lines machine.cache.cached machine.cache.persisted

-- what recovery makes of the cut, with these lines "evicted just before"; "Start cells are 0", and so is the lent buffer
unfoldable pub recovered_by : Machine → List ℕ → Outcome
recovered_by machine lines = recover_of (image_of (after machine (evictions lines))) (replicate cell_count 0)

-- the outcomes of all choices that are tried at this cut
unfoldable pub tried : Machine → List Outcome
tried machine = map (recovered_by machine) (choices_of (tried_lines machine))

-- "Prove that all choices at one cut recover to the same cells": at every machine that steps lead to, every choice of lines, tried or not,
-- has the outcome of none, and it is accepted
abbrev pub AllAlike : Type 0
AllAlike =
    (machine : Machine) → Reached machine → (lines : List ℕ) →
    (recovered_by machine lines ≡ recovered_by machine []) × ((recovered_by machine lines).answer ≡ Ok 0)
