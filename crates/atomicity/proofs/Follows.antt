-- What a machine has to do with the history that led to it: its clocks, accesses and locks are those of the history.
use Prim.Native.Nat.{ℕ, suc, ◌≤◌, ◌<◌}
use native.Mathlib.Omega.{arith}
use mathlib.Core.Path.{◌≡◌, ap}
use mathlib.Core.Bool.{true}
use mathlib.Core.List.{List}
use Rattle.sizes.specs.Sizes.{thread_count}
use Rattle.clocks.specs.Clocks.{clock_at}
use Rattle.machine.specs.Holds.{clock_of}
use Rattle.machine.specs.State.{Machine}
use Rattle.machine.proofs.Sizes.{Sized}
use Rattle.atomicity.specs.History.{Fed, step_at}
use Rattle.atomicity.proofs.Ordered.{own-reaches}
use Rattle.atomicity.proofs.Epochs.{releases, epoch_at}
use Rattle.atomicity.proofs.ClockInvariant.{Clocked}
use Rattle.atomicity.proofs.AccessInvariant.{Accessed}
use Rattle.atomicity.proofs.Holding.{Held}

pub record Follows (machine : Machine) (history : List Fed) : Type 0 where
  pub sized : Sized machine
  pub in_range : (place : ℕ) → (step_at history place).accepted ≡ true → (step_at history place).thread < thread_count
  pub clocked : Clocked machine.clocks machine.lock_clocks history
  pub accessed : Accessed machine.accesses history
  pub held : Held machine.logs machine.locks machine.clocks machine.lock_clocks

-- a thread's earlier steps have at most its own number for their epoch
pub own-at_most : (machine : Machine) (history : List Fed) → Follows machine history → (thread : ℕ) → thread < thread_count →
    (place : ℕ) → (step_at history place).accepted ≡ true → (step_at history place).thread ≡ thread →
    epoch_at history place ≤ suc (releases history thread)
own-at_most machine history follows thread is_thread place is_accepted is_own =
    omega (
      arith,
      follows.clocked.own thread is_thread,
      ap (clock_at (clock_of machine thread)) is_own,
      (follows.clocked.threads thread is_thread).counts place is_accepted (rw is_own at (own-reaches history place is_accepted)),
    )
