-- `script::take` meets its contract, by the loop's invariant.
use Prim.Native.Nat.{◌<◌}
use mathlib.Core.Path.{◌≡◌, sym, ap, ◌∙◌}
use native.Mathlib.Omega.{arith}
use borrow.Author.Rules.{rules}
use Rattle.std.proofs.lemmas.Result.{err_from_is_err_and}
use Rattle.machine.specs.declared.Stepped.{Stepped}
use Rattle.script.specs.Script.{taken_of}
use Rattle.script.proofs.ScriptLaws.{took, none-taken, taken_more, place-fits}
use Rattle.script.proofs.take.Goals as goal

pub returns-in_err-reading : goal.returns-in_err-reading
returns-in_err-reading c =
    let a = c.args in
    let p = err_from_is_err_and c.from_residual.result c.from_residual.ensures.1 in
    rw (p.1, p.2) (took a.machine.now a.kind a.thread a.place a.value (sym c.in_err-reading.was ∙ c.read_fields.ensures))

pub loop-index-init : goal.loop-index-init
loop-index-init c = sym (none-taken c.args.machine.now c.in_ok-reading.reading c.args.value)

pub overflow_add-reading : goal.overflow_add-reading
overflow_add-reading c =
    let a = c.args in
    let word : a.place < 18446744073709551616 = search rules in
    omega (arith, place-fits a.kind a.thread a.place a.value c.loop-index.index (sym c.in_ok-reading.was ∙ c.read_fields.ensures) word (omega arith))

pub loop-index-preserved : goal.loop-index-preserved
loop-index-preserved c =
    taken_more c.args.machine.now c.in_ok-reading.reading c.args.value c.loop-index.index
    (ap (λ (stepped : Stepped). stepped.machine) c.loop-index.invariant) c.step-stepped.ensures

pub returns : goal.returns
returns c =
    let a = c.args in
    let all : c.loop-index.index ≡ c.in_ok-reading.reading.count = omega arith in
    c.loop-index.invariant ∙ ap (taken_of a.machine.now c.in_ok-reading.reading a.value) all
    ∙ took a.machine.now a.kind a.thread a.place a.value (sym c.in_ok-reading.was ∙ c.read_fields.ensures)
