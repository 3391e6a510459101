-- The law on a LOG of a cell that has an entry in the thread's current region: since that entry's LOG no other thread accessed the cell.
use Rattle.std.specs.Prelude.{None, Option, Some}
use mathlib.Core.Path.{◌≡◌, refl}
use mathlib.Core.Bool.{true, false, false≢true}
use Rattle.ring.specs.declared.Lsn.{Lsn}
use Rattle.undo.specs.Regions.{is_found, logged_of}
use Rattle.machine.specs.Clocks.{log_races}
use Rattle.machine.specs.Holds.{log_of}
use Rattle.atomicity.specs.History.{machine_after, history_after}
use Rattle.laws.specs.RefusalLaws.{RepeatLaw}
use Rattle.atomicity.proofs.QuietStepsKeep.{logged-now}
use Rattle.atomicity.proofs.Repeats.{never-races}
use Rattle.atomicity.proofs.RunInvariantHolds.{after_run}

pub repeat-never_races : RepeatLaw
repeat-never_races words steps thread cell is_thread is_cell =
    by-found (logged_of (log_of (machine_after words steps) thread) cell) refl
  where
    by-found : (found : Option Lsn) → logged_of (log_of (machine_after words steps) thread) cell ≡ found → is_found found ≡ true →
        log_races (machine_after words steps) thread cell ≡ false
    by-found None is_nowhere option_is_some = absurd (false≢true option_is_some)
    by-found (Some number) is_at option_is_some =
        let run_holds = after_run words steps in
        never-races (machine_after words steps) (history_after words steps) run_holds.follows thread cell is_thread is_cell
        (logged-now run_holds.machine_holds thread cell 0 is_thread number is_at)
