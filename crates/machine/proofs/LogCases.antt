-- LOG goes one of two ways: it makes an entry, or the current region has the cell's entry and nothing changes.
use Rattle.std.specs.Prelude.{None, Option, Some}
use Prim.Native.Nat.{ℕ}
use mathlib.Core.Path.{◌≡◌, refl, ap}
use Rattle.ring.specs.declared.Lsn.{Lsn}
use Rattle.undo.specs.Regions.{logged_of}
use Rattle.machine.specs.Effects.{accepted, first_log_effect, log_effect_at, log_effect}
use Rattle.machine.specs.Holds.{log_of}
use Rattle.machine.specs.State.{Machine}
use Rattle.machine.specs.declared.Stepped.{Stepped}

-- a LOG of a cell without an entry in the current region makes one
pub log-first : (machine : Machine) (thread cell : ℕ) → logged_of (log_of machine thread) cell ≡ None
    → log_effect machine thread cell ≡ first_log_effect machine thread cell
unfolding log_effect
log-first machine thread cell is_nowhere = ap (λ (found : Option Lsn). log_effect_at found machine thread cell) is_nowhere

-- what holds of a LOG that makes an entry, and of one that finds the cell's entry, holds of every LOG
pub log_cases : (Q : Stepped → Type 0) (machine : Machine) (thread cell : ℕ)
    → (logged_of (log_of machine thread) cell ≡ None → Q (first_log_effect machine thread cell))
    → ((number : Lsn) → logged_of (log_of machine thread) cell ≡ Some number → Q (accepted number.0 machine))
    → Q (log_effect machine thread cell)
unfolding log_effect
log_cases Q machine thread cell first again = by-found (logged_of (log_of machine thread) cell) refl
  where
    by-found : (found : Option Lsn) → logged_of (log_of machine thread) cell ≡ found → Q (log_effect_at found machine thread cell)
    by-found None is_nowhere = first is_nowhere
    by-found (Some number) is_at = again number is_at
