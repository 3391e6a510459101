-- `choices::differing_lines` meets its contract. The loop's invariant: with those from `line` on, the lines are the first eight of all.
use Prim.Native.Nat.{ℕ, ◌≤◌, ◌<◌}
use native.Mathlib.Omega.{arith}
use mathlib.Core.Path.{◌≡◌, sym, ◌∙◌}
use mathlib.Core.List.{List}
use lib.ListN.{take}
use Rattle.cache.specs.Cache.{line_count}
use Rattle.choices.specs.Choices.{differs_in, lowest_lines}
use Rattle.choices.proofs.ChoiceLaws.{Gathered, gather-more, gather-same, gather-full, gather_ends, lowest-below}
use Rattle.choices.proofs.differing_lines.Goals as goal
use Rattle.choices.proofs.differing_lines.Goals.{then-has_room+then-line_differs, then-has_room+else-line_differs, else-has_room}

pub loop-line-preserved : goal.loop-line-preserved
loop-line-preserved c =
    let at = c.loop-line.invariant in
    let more : c.loop-line.line < line_count = omega arith in
    elim c.if-has_room.branch [
      | then-has_room+then-line_differs w ↦
          rw (w.lines-is, w.count-is)
          (gather-more at more (omega (arith, w.if-has_room.true)) (sym w.line_differs.ensures ∙ w.if-line_differs.true))
      | then-has_room+else-line_differs w ↦
          rw (w.lines-is, w.count-is) (gather-same at more (sym w.line_differs.ensures ∙ w.if-line_differs.false))
      | else-has_room w ↦ rw (w.lines-is, w.count-is) (gather-full at more w.if-has_room.false)
    ]

-- past the last line, those gathered are the lowest
lowest : (seen kept : List ℕ) {lines : List ℕ} {count line : ℕ} → Gathered (differs_in seen kept) lines count line → line_count ≤ line
    → take count lines ≡ lowest_lines seen kept
unfolding lowest_lines
lowest seen kept at past = gather_ends at past

pub invariant_of-result : goal.invariant_of-result
invariant_of-result c = let a = c.args in
    let at = c.loop-line.invariant in
    record { few = at.few; below = rw (lowest a.seen.now a.kept.now at (omega arith)) (lowest-below a.seen.now a.kept.now) }

pub returns : goal.returns
returns c = lowest c.args.seen.now c.args.kept.now c.loop-line.invariant (omega arith)
