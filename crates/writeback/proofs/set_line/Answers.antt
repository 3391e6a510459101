-- `writeback::set_line` meets its contract: the line's cells are the part that is written.
use Prim.Native.Nat.{◌+◌, ◌*◌, ◌-◌}
use native.Mathlib.Omega.{arith}
use mathlib.Core.Path.{◌≡◌, sym, ap, ◌∙◌}
use mathlib.Core.Bool.{Bool, true, false}
use mathlib.Core.List.{List}
use lib.ListN.{length, get_or, take, drop, replicate, length-take, length-drop, length-replicate}
use borrow.Author.Rules.{rules}
use Rattle.std.proofs.lemmas.List.{get_or-replicate}
use Rattle.cache.proofs.Lines.{marked, marked-long, marked-inside, marked-outside}
use Rattle.writeback.proofs.Parts.{written}
use Rattle.writeback.proofs.set_line.Goals as goal

pub returns : goal.returns
returns c = let a = c.args in
    let flags = a.flags.now in
    let first = a.line * 8 in
    let count = first + 8 - first in
    let all : length (take count (drop first flags)) ≡ count = simp (length-take, length-drop) (omega arith) in
    let part : c.fill.new.self ≡ replicate (length (take count (drop first flags))) true = search rules in
    written (marked a.line flags) flags c.fill.new.self false first count (marked-long a.line flags) (omega arith)
    (ap length part ∙ length-replicate _ true ∙ all)
    (λ cell less. marked-outside a.line flags cell (omega arith))
    (λ index less.
    ap (λ (list : List Bool). get_or list index false) part ∙ get_or-replicate _ index true false (omega (arith, all)) ∙
    sym (marked-inside a.line flags (first + index) (omega arith) (omega arith)))
    (λ cell past. marked-outside a.line flags cell (omega arith))
