-- `region::region_size` meets its contract. The loop's invariant: the entries passed, and those from here on that go on the
-- region, are all of the region.
use Prim.Native.Nat.{◌-◌}
use mathlib.Core.Path.{◌≡◌, sym, ◌∙◌, ap}
use native.Mathlib.Omega.{arith}
use Rattle.thread_log.specs.Entries.{live_count}
use Rattle.undo.specs.Entering.{live_event}
use Rattle.undo.specs.Regions.{is_acquire, is_release, goes_on}
use Rattle.region.proofs.OldestLaws.{goes-on-stops, goes-on-ends, goes-on-turn, no-region, region-of-release, region-goes-on}
use Rattle.region.proofs.region_size.Goals as goal
use Rattle.region.proofs.region_size.Goals.{After-is_acquire, After-is_release, After-is_release-in-loop-index, Else-live-eq0}

-- some entry is live
live : (c : Else-live-eq0) → live_count c.args.log.now ≡ 0 → ⊥
live c none = c.if-live-eq0.false (c.live_count-live.ensures ∙ none)

-- what the tests found is what the entries say
first : (c : After-is_release) → is_release (live_event c.args.log.now 0) ≡ c.is_release.result
first c = sym (c.is_release.ensures ∙ rw c.live_event.ensures)

acquires : (c : After-is_acquire) → is_acquire (live_event c.args.log.now c.loop-index.index) ≡ c.is_acquire.result
acquires c = sym (c.is_acquire.ensures ∙ rw c.live_event-event.ensures)

releases : (c : After-is_release-in-loop-index)
    → is_release (live_event c.args.log.now c.loop-index.index) ≡ c.is_release-in-loop-index.result
releases c = sym (c.is_release-in-loop-index.ensures ∙ rw c.live_event-event.ensures)

pub returns-then-live-eq0 : goal.returns-then-live-eq0
returns-then-live-eq0 c = sym (no-region c.args.log.now (sym c.live_count-live.ensures ∙ c.if-live-eq0.true))

pub returns-then-is_release : goal.returns-then-is_release
returns-then-is_release c = let at = goal.at.returns-then-is_release c in
    sym (region-of-release c.args.log.now (live at.Else-live-eq0) (first at.After-is_release ∙ c.if-is_release.true))

pub loop-index-init : goal.loop-index-init
loop-index-init c = let at = goal.at.loop-index-init c in
    rw c.live_count-live.ensures
    (region-goes-on c.args.log.now (live at.Else-live-eq0) (first at.After-is_release ∙ c.if-is_release.false))

pub returns-then-is_acquire : goal.returns-then-is_acquire
returns-then-is_acquire c = let at = goal.at.returns-then-is_acquire c in
    let stops =
    goes-on-stops c.args.log.now c.loop-index.index c.live_count-live.result c.loop-index-test.true
    (acquires at.After-is_acquire ∙ c.if-is_acquire.true) in
    omega arith

pub returns-then-is_release-2 : goal.returns-then-is_release-2
returns-then-is_release-2 c = let at = goal.at.returns-then-is_release-2 c in
    let ends =
    goes-on-ends c.args.log.now c.loop-index.index c.live_count-live.result c.loop-index-test.true
    (acquires at.After-is_acquire ∙ c.if-is_acquire.false)
    (releases at.After-is_release-in-loop-index ∙ c.if-is_release-2.true) in
    omega arith

pub loop-index-preserved : goal.loop-index-preserved
loop-index-preserved c = let at = goal.at.loop-index-preserved c in
    let turns =
    goes-on-turn c.args.log.now c.loop-index.index c.live_count-live.result c.loop-index-test.true
    (acquires at.After-is_acquire ∙ c.if-is_acquire.false)
    (releases at.After-is_release-in-loop-index ∙ c.if-is_release-2.false) in
    omega arith

pub returns : goal.returns
unfolding goes_on
returns c = let none : c.live_count-live.result - c.loop-index.index ≡ 0 = omega arith in
    let gone = ap (goes_on c.args.log.now c.loop-index.index) none in
    omega arith
