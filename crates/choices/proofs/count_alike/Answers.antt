-- `choices::count_alike` meets its contract. The loop's invariant: those counted and those left to count are all choices that are alike.
use Prim.Native.Nat.{◌*◌, ◌%◌, ◌^◌, ◌≤◌, ◌<◌}
use native.Mathlib.Omega.{arith}
use mathlib.Core.Path.{◌≡◌, ap, sym, ◌∙◌}
use mathlib.Core.List.{[]}
use lib.ListN.{length, get_or, take}
use lib.Seq.{length-take-le}
use borrow.Author.Rules.{rules}
use Rattle.std.proofs.lemmas.Nat.{one_shl}
use Rattle.choices.specs.declared.Tried.{Tried}
use Rattle.choices.specs.Choices.{choices_of}
use Rattle.choices.specs.Counting.{twos, marks_of, is_alike, count_alike}
use Rattle.choices.proofs.ChoiceLaws.{twos_power, choices_length, choices_at}
use Rattle.choices.proofs.ChoiceLaws.{counts-more, counts_same, counts_end}
use Rattle.choices.proofs.count_alike.Goals as goal
use Rattle.choices.proofs.count_alike.Goals.{then-is_alike, else-is_alike}

-- the total is the number of choices of the lines that are tried
total-is : (tried : Tried) → length tried.lines ≡ 8 → (1 * 2 ^ tried.count) % 2 ^ 64 ≡ length (choices_of (take tried.count tried.lines))
total-is tried eight =
    let few : tried.count ≤ 8 = tried.few in
    one_shl tried.count 64 (omega arith) ∙ sym (twos_power tried.count) ∙
    ap twos (sym (length-take-le tried.count tried.lines (omega arith))) ∙ sym (choices_length (take tried.count tried.lines))

pub loop-choice-preserved : goal.loop-choice-preserved
loop-choice-preserved c = let a = c.args in
    let lines = take a.tried.count a.tried.lines in
    let choice = c.loop-choice.choice in
    let more : choice < length (choices_of lines) = omega (arith, total-is a.tried (search rules), c.loop-choice-test) in
    let found : is_alike a.seen.now a.kept.now (marks_of (get_or (choices_of lines) choice [])) ≡ c.is_alike.result =
    rw (choices_at lines choice (omega (arith, more, choices_length lines))) (sym (c.is_alike.ensures ∙ rw c.chosen.ensures)) in
    elim c.if-is_alike.branch [
      | then-is_alike w ↦ rw w.alike-is (counts-more c.loop-choice.invariant [] more (found ∙ w.if-is_alike.true))
      | else-is_alike w ↦ rw w.alike-is (counts_same c.loop-choice.invariant [] more (found ∙ w.if-is_alike.false))
    ]

pub returns : goal.returns
unfolding count_alike
returns c = counts_end c.loop-choice.invariant (omega (arith, total-is c.args.tried (search rules), c.loop-choice-test))
