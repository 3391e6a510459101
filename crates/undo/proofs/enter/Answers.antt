-- `undo::enter` meets its contract: the log appends what the event is written as, where the tests before it refuse nothing.
use mathlib.Core.Path.{◌∙◌}
use Rattle.std.proofs.lemmas.Result.{err_from_is_err_and}
use Rattle.undo.specs.Entering.{entered_of}
use Rattle.undo.proofs.enter.Goals as goal

pub returns-in_err-asked : goal.returns-in_err-asked
unfolding entered_of
returns-in_err-asked c = let p = err_from_is_err_and c.from_residual.result c.from_residual.ensures.1 in
    rw (p.1, p.2, c.in_err-asked.was)

pub returns : goal.returns
unfolding entered_of
returns c = rw c.in_ok-asked.was (c.append.ensures ∙ rw (c.from.ensures, c.closes.ensures))
