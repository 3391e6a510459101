-- `undo::logged` meets its contract, by its loop's invariant.
use Rattle.std.specs.Prelude.{Some}
use Prim.Native.Nat.{◌+◌, ◌-◌}
use mathlib.Core.Path.{◌≡◌, sym, ap, ◌∙◌}
use mathlib.Core.Logic.{⊎_elim}
use native.Mathlib.Omega.{arith}
use borrow.Author.Tests.{eq-eqb, ne_eqb}
use lib.ListN.{get_or}
use Rattle.ring.specs.Ring.{lsn}
use Rattle.entry.specs.Words.{said_by, zeros}
use Rattle.event.specs.Events.{event_of}
use Rattle.event.specs.declared.Event.{Event}
use Rattle.event.specs.declared.Event.TheVariants.{Empty, Store, Acquire, Release}
use Rattle.undo.specs.Entering.{live_event}
use Rattle.undo.specs.Regions.{searched, logged_among, logged_of}
use Rattle.undo.proofs.Walks.{logged_turn}
use Rattle.undo.proofs.logged.Goals as goal
use Rattle.undo.proofs.logged.Goals.{After-from}

turn : (c : After-from) (event : Event) → c.from.result ≡ event
    → (let log = c.args.log.now in
    let left = c.loop-index.index - 1 in
    logged_of log c.args.cell ≡ searched event c.args.cell (Some (lsn (log.head.0 + left))) (logged_among log c.args.cell left))
turn c event says =
    let log = c.args.log.now in
    let live : live_event log (c.loop-index.index - 1) ≡ event =
    ap (λ slot. event_of (said_by (get_or log.cached slot zeros))) (sym c.slot_after.ensures) ∙ sym c.from.ensures ∙ says in
    c.loop-index.invariant ∙ logged_turn log c.args.cell c.loop-index.index (omega arith) ∙ rw live

pub loop-index-init : goal.loop-index-init
unfolding logged_of
loop-index-init c = rw c.live_count-index.ensures

pub returns-in-Empty : goal.returns-in-Empty
returns-in-Empty c =
    let at = (goal.at.returns-in-Empty c).After-from in
    ⊎_elim
    (λ empty. sym (turn at Empty empty))
    (λ more.
    ⊎_elim
    (λ acquire. sym (turn at (Acquire _ _) acquire.2))
    (λ release. sym (turn at (Release _ _) release.2))
    more)
    c.in-Empty.is

pub returns-then-logged-cell : goal.returns-then-logged-cell
returns-then-logged-cell c =
    let at = (goal.at.returns-then-logged-cell c).After-from in
    sym (turn at (Store _ _) c.in-Store.is ∙ rw (eq-eqb _ _ c.if-logged-cell.true))

pub loop-index-preserved : goal.loop-index-preserved
loop-index-preserved c =
    let at = (goal.at.loop-index-preserved c).After-from in
    turn at (Store _ _) c.in-Store.is ∙ rw (ne_eqb _ _ c.if-logged-cell.false)

pub returns : goal.returns
unfolding logged_among
returns c =
    let none : c.loop-index.index ≡ 0 = omega arith in
    sym (c.loop-index.invariant ∙ rw none)
