-- `append::grow` is `grow_of`: each return is what the tests that led there decide.
use mathlib.Core.Path.{sym}
use Rattle.append.specs.Append.{grow_of, grown_tail}
use Rattle.append.proofs.Room.{used-up, full, room}
use Rattle.append.proofs.grow.Goals as goal

pub returns-then-tail-gt-LAST_LSN : goal.returns-then-tail-gt-LAST_LSN
unfolding grow_of
returns-then-tail-gt-LAST_LSN c = sym (used-up _ _ _ _ c.if-tail-gt-LAST_LSN.true)

pub returns-then-live_count : goal.returns-then-live_count
unfolding grow_of
returns-then-live_count c = sym (full _ _ _ _ c.if-tail-gt-LAST_LSN.false (rw (← c.live_count.ensures) c.if-live_count.true))

pub returns : goal.returns
unfolding grow_of grown_tail
returns c =
    let a = c.args in
    let some = c.if-live_count.false in
    rw c.closed.ensures (sym (room _ _ a.tail a.head.0 c.if-tail-gt-LAST_LSN.false (rw (← c.live_count.ensures) some)))
