-- LOG, asked of the thread's log, the accesses, the thread's clock and the cell's content.
use Rattle.std.specs.Prelude.{Ok, None, Option, Some, ℕ, not, List, ◌∷◌}
use Rattle.answer.specs.Answer.{Answer}
use Rattle.answer.specs.Refusals.{Test, ◌⇒◌, guarded, unless}
use Rattle.answer.specs.declared.Refusal.TheVariants.{Releasing, Race}
use Rattle.ring.specs.declared.Lsn.{Lsn}
use Rattle.thread_log.specs.Entries.{append_tests}
use Rattle.thread_log.specs.declared.Log.{Log}
use Rattle.undo.specs.Entering.{enter_of}
use Rattle.undo.specs.Regions.{is_closing, is_logged, logged_of}
use Rattle.event.specs.declared.Event.TheVariants.{Store}
use Rattle.clocks.specs.Clocks.{clock_at}
use Rattle.accesses.specs.Accesses.{has_unknown, logged_cell_of}
use Rattle.accesses.specs.declared.Accesses.{Accesses}
use Rattle.clocks.specs.declared.Clock.{Clock}

-- a LOG's answer, beside the log and the accesses after it
pub record Logged : Type 0 where
  pub answer : Answer
  pub log : Log
  pub accesses : Accesses

-- the tests of a LOG that appends, after 7: 8 where some thread's last access of the cell does not happen before it, then 6, 5
abbrev pub first_log_tests : Log → Accesses → Clock → ℕ → List Test
first_log_tests log accesses clock cell = (has_unknown accesses clock cell ⇒ Race) ∷ append_tests log

-- document 02: "LOG's order is 7, 8, 6, 5", and of a LOG of a cell with an entry in the current region, which is accepted, "only 7 comes
-- before it"
abbrev pub log_tests_on : Log → Accesses → Clock → ℕ → List Test
log_tests_on log accesses clock cell =
    (is_closing log ⇒ Releasing) ∷ guarded (not (is_logged log cell)) (first_log_tests log accesses clock cell)

-- "LOG cell: appends STORE with the seen content. Answers the rank."
abbrev pub first_logged : Log → Accesses → Clock → ℕ → ℕ → ℕ → Logged
first_logged log accesses clock thread cell old = record {
  answer = Ok log.tail.next.0;
  log = enter_of log (Store cell old);
  accesses = logged_cell_of accesses thread cell (clock_at clock thread);
}

-- LOG, by the cell's entry in the current region. Document 02, of a LOG where there is one: "It answers the first entry's rank and appends
-- nothing". All stays as it is.
abbrev pub logged_at : Option Lsn → Log → Accesses → Clock → ℕ → ℕ → ℕ → Logged
logged_at None log accesses clock thread cell old = first_logged log accesses clock thread cell old
logged_at (Some number) log accesses clock thread cell old = record { answer = Ok number.0; log = log; accesses = accesses }

-- LOG, refused by 7, 8, 6, 5
unfoldable pub log_on : Log → Accesses → Clock → ℕ → ℕ → ℕ → Logged
log_on log accesses clock thread cell old =
    unless
    (λ answer. record { answer = answer; log = log; accesses = accesses })
    (log_tests_on log accesses clock cell)
    (logged_at (logged_of log cell) log accesses clock thread cell old)

-- LOG of a cell without an entry in the current region, where the thread is not closing: refused by 8, 6, 5
unfoldable pub first_log_on : Log → Accesses → Clock → ℕ → ℕ → ℕ → Logged
first_log_on log accesses clock thread cell old =
    unless
    (λ answer. record { answer = answer; log = log; accesses = accesses })
    (first_log_tests log accesses clock cell)
    (first_logged log accesses clock thread cell old)
