-- LOG's tests: a cell's entry in the current region decides which of them are asked.
use Rattle.std.specs.Prelude.{Err, None, Option, Some}
use Prim.Native.Nat.{ℕ}
use mathlib.Core.Path.{◌≡◌, sym, ◌∙◌, ap}
use mathlib.Core.Bool.{Bool, true, false, not}
use mathlib.Core.List.{List, ◌∷◌}
use Rattle.answer.specs.Refusals.{Test, ◌⇒◌, guarded, unless}
use Rattle.answer.specs.Answer.{Answer}
use Rattle.answer.specs.declared.Refusal.TheVariants.{Releasing}
use Rattle.answer.proofs.RefusalLaws.{guarded-asked, guarded_unasked}
use Rattle.ring.specs.declared.Lsn.{Lsn}
use Rattle.thread_log.specs.declared.Log.{Log}
use Rattle.undo.specs.Regions.{is_closing, is_found, logged_of}
use Rattle.clocks.specs.declared.Clock.{Clock}
use Rattle.accessing.specs.Logs.{Logged, first_log_tests, first_logged, logged_at, log_on, first_log_on}
use Rattle.accesses.specs.declared.Accesses.{Accesses}

module _ (log : Log) (accesses : Accesses) (clock : Clock) (cell : ℕ) where
  -- what a LOG refused with this answer leaves
  abbrev refused_with : Answer → Logged
  refused_with answer = record { answer = answer; log = log; accesses = accesses }

  module _ (thread old : ℕ) where
    -- the LOG's outcome by the two things that its tests ask of the log: whether the thread is closing, and the cell's entry
    abbrev logged_by : Bool → Option Lsn → Logged
    logged_by closing found =
        unless
        refused_with
        ((closing ⇒ Releasing) ∷ guarded (not (is_found found)) (first_log_tests log accesses clock cell))
        (logged_at found log accesses clock thread cell old)

    -- the thread is closing: 7, whatever its current region has
    pub log-closing : is_closing log ≡ true → refused_with (Err Releasing) ≡ log_on log accesses clock thread cell old
    unfolding log_on unless
    log-closing is_closed =
        ap (λ (closing : Bool). logged_by closing (logged_of log cell)) (sym is_closed)

    -- the thread is not closing, and its current region has an entry of the cell: its LSN is answered, and nothing changes
    pub log-again : is_closing log ≡ false → (number : Lsn) → logged_of log cell ≡ Some number
        → logged_at (Some number) log accesses clock thread cell old ≡ log_on log accesses clock thread cell old
    unfolding log_on unless
    log-again is_open number is_at =
        sym
        (ap (λ (closing : Bool). logged_by closing (logged_of log cell)) is_open ∙
        ap (λ (found : Option Lsn). logged_by false found) is_at ∙
        guarded_unasked
        refused_with
        (logged_at (Some number) log accesses clock thread cell old)
        (first_log_tests log accesses clock cell))

    -- the thread is not closing, and its current region has no entry of the cell
    pub log-anew : is_closing log ≡ false → logged_of log cell ≡ None
        → first_log_on log accesses clock thread cell old ≡ log_on log accesses clock thread cell old
    unfolding log_on first_log_on unless
    log-anew is_open is_nowhere =
        sym
        (ap (λ (closing : Bool). logged_by closing (logged_of log cell)) is_open ∙
        ap (λ (found : Option Lsn). logged_by false found) is_nowhere ∙
        ap
        (λ (tests : List Test). unless refused_with tests (first_logged log accesses clock thread cell old))
        (guarded-asked (first_log_tests log accesses clock cell)))
