-- A call with too long a list, as a loop over its cells meets it: there is nothing to be tried.
use Rattle.std.specs.Prelude.{Err}
use Prim.Native.Nat.{ℕ, ◌≤◌, ◌<◌}
use native.Mathlib.Omega.{arith}
use mathlib.Core.Path.{◌≡◌, sym, subst⁻¹}
use mathlib.Core.List.{List}
use lib.ListN.{length}
use Rattle.answer.specs.Answer.{Answer}
use Rattle.answer.specs.declared.Refusal.TheVariants.{TooManyCells}
use Rattle.machine.specs.Runs.{Reached}
use Rattle.machine.specs.State.{Machine}
use Rattle.machine.proofs.Reaching.{after-reached}
use Rattle.batch.specs.Batch.{most_cells, log_cells_of, first_logs}
use Rattle.batch.proofs.BatchLaws.{leaves, too_long, logged_after}

module _ (machine : Machine) (thread : ℕ) (cells : List ℕ) where
  -- A refusal stopped the call, or kept it from beginning: the next machine, the answer, where the cells to be tried end, how many were
  -- accepted, and how many tried. None is left to be tried, and these are what the call leaves.
  pub record Stopped (next : Machine) (answer : Answer) (end count tried : ℕ) : Type 0 where
    pub within : end ≤ length cells
    pub none_left : end ≤ tried
    pub outcome : log_cells_of machine thread cells ≡ leaves count answer next

  -- too long a list keeps the call from beginning: none of its cells is tried, and the machine is as it was
  pub come-none : most_cells < length cells → Stopped machine (Err TooManyCells) 0 0 0
  come-none long = record {
    within = omega arith;
    none_left = omega arith;
    outcome = sym (too_long machine thread cells long);
  }

-- a call leads to a machine that steps lead to
pub logged_reached : (machine : Machine) (thread : ℕ) (cells : List ℕ) → Reached machine →
    Reached (log_cells_of machine thread cells).machine
logged_reached machine thread cells reached =
    subst⁻¹ Reached (logged_after machine thread cells)
    (after-reached machine (first_logs thread cells (log_cells_of machine thread cells).count) reached)
