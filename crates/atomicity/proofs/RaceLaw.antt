-- The law on races: on every machine that steps lead to, the clock tests of a LOAD and a LOG are document 01's.
use Rattle.atomicity.specs.History.{machine_after, history_after}
use Rattle.atomicity.specs.Races.{RaceLaw}
use Rattle.atomicity.proofs.RaceTests.{load-decides, log-decides}
use Rattle.atomicity.proofs.RunInvariantHolds.{after_run}

pub race_law : RaceLaw
race_law words steps thread cell is_thread is_cell =
    let follows = (after_run words steps).follows in (
      load-decides (machine_after words steps) (history_after words steps) follows thread cell is_thread is_cell,
      log-decides (machine_after words steps) (history_after words steps) follows thread cell is_thread is_cell,
    )
