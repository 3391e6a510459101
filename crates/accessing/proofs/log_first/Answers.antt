-- `accessing::log_first` meets its contract: the accesses change where the log gets the entry.
use mathlib.Core.Path.{◌≡◌, ap, ◌∙◌}
use mathlib.Core.Bool.{Bool}
use mathlib.Core.List.{[], ◌∷◌}
use Rattle.std.proofs.lemmas.Result.{err_from_is_err_and}
use Rattle.answer.specs.Refusals.{◌⇒◌, first_refusal}
use Rattle.answer.specs.declared.Refusal.TheVariants.{Race}
use Rattle.event.specs.declared.Event.TheVariants.{Store}
use Rattle.clocks.specs.Clocks.{clock_at}
use Rattle.accesses.specs.Accesses.{has_unknown, logged_cell_of}
use Rattle.accessing.specs.Logs.{first_log_on}
use Rattle.accessing.proofs.EntryLaws.{entry-refused, entry-made}
use Rattle.accessing.proofs.log_first.Goals as goal
use Rattle.accessing.proofs.log_first.Goals.{After-enter}

-- LOG's own test, before those of its append: 8
asks : (c : After-enter)
    → let a = c.args in
    c.race_answer-asked.result ≡ first_refusal ((has_unknown a.accesses.now a.clock a.cell ⇒ Race) ∷ [])
asks c =
    c.race_answer-asked.ensures
    ∙ ap (λ (races : Bool). first_refusal ((races ⇒ Race) ∷ [])) c.log_races.ensures

pub returns-in_err-lsn : goal.returns-in_err-lsn
unfolding first_log_on
returns-in_err-lsn c = let a = c.args in
    let p = err_from_is_err_and c.from_residual.result c.from_residual.ensures.1 in
    rw (p.1, p.2)
    (entry-refused
    a.log.now
    (Store a.cell a.old)
    ((has_unknown a.accesses.now a.clock a.cell ⇒ Race) ∷ [])
    (asks (goal.at.returns-in_err-lsn c).After-enter)
    c.enter.ensures
    (λ answer log. record { answer = answer; log = log; accesses = a.accesses.now })
    _
    c.in_err-lsn.was)

pub returns : goal.returns
unfolding first_log_on
returns c = let a = c.args in
    rw (c.logged_cell.ensures, c.at.ensures)
    (entry-made
    a.log.now
    (Store a.cell a.old)
    ((has_unknown a.accesses.now a.clock a.cell ⇒ Race) ∷ [])
    (asks (goal.at.returns c).After-enter)
    c.enter.ensures
    (λ answer log. record { answer = answer; log = log; accesses = a.accesses.now })
    (λ answer log. record {
      answer = answer;
      log = log;
      accesses = logged_cell_of a.accesses.now a.thread a.cell (clock_at a.clock a.thread);
    })
    c.in_ok-lsn.was)
