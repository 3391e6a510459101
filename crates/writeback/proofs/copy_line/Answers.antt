-- `writeback::copy_line` meets its contract: the line's cells are the part that is written.
use Prim.Native.Nat.{ℕ, ◌+◌, ◌*◌, ◌-◌}
use native.Mathlib.Omega.{arith}
use mathlib.Core.Path.{◌≡◌, sym, ap, ◌∙◌}
use mathlib.Core.List.{List}
use lib.ListN.{length, get_or, take, drop, length-take, length-drop}
use borrow.Author.Rules.{rules}
use Rattle.std.proofs.lemmas.List.{get_or-drop, get_or-take}
use Rattle.cache.proofs.Lines.{copied, copied-long, copied-inside, copied-outside}
use Rattle.writeback.proofs.Parts.{written}
use Rattle.writeback.proofs.copy_line.Goals as goal

pub returns : goal.returns
returns c = let a = c.args in
    let from = a.from.now in
    let to = a.to.now in
    let long : length from ≡ length to = omega arith in
    let first = a.line * 8 in
    let count = first + 8 - first in
    let part : c.copy_from_slice.new.self ≡ take count (drop first from) = search rules in
    written (copied a.line from to) to c.copy_from_slice.new.self 0 first count (copied-long a.line from to long) (omega arith)
    (ap length part ∙ simp (length-take, length-drop) (omega arith))
    (λ cell less. copied-outside a.line from to long cell (omega arith))
    (λ index less.
    ap (λ (words : List ℕ). get_or words index 0) part ∙ get_or-take count (drop first from) index 0 less ∙
    get_or-drop first from index 0 ∙ sym (copied-inside a.line from to long (first + index) (omega arith)))
    (λ cell past. copied-outside a.line from to long cell (omega arith))
