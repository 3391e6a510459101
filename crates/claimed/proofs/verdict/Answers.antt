-- `claimed::verdict` meets its contract.
use Prim.Native.Nat.{ℕ}
use mathlib.Core.Path.{◌≡◌, refl, sym, ap, ◌∙◌}
use mathlib.Core.List.{List}
use native.Mathlib.Omega.{arith}
use borrow.Author.Rules.{rules}
use Rattle.buffer.specs.declared.Page.{Page}
use Rattle.buffer.specs.Pages.{Put}
use Rattle.buffer.specs.Buffers.{written, place_after}
use Rattle.claimed.specs.Verdict.{verdict_of}
use Rattle.claimed.specs.Read.{read_text}
use Rattle.claimed.proofs.Pairs.{too_long, both_read}
use Rattle.claimed.proofs.verdict.Goals as goal
use Rattle.claimed.proofs.verdict.Goals.{After-read_pairs, in-Ok, in-Err}

-- what is printed of an input that is not too long
text-is : (c : After-read_pairs)
    → verdict_of c.args.input.now ≡ read_text c.take_steps-taken.result.machine c.read_pairs.new.pairs c.read_pairs.result
text-is c = both_read (omega (arith, c.if-input-gt-MOST_INPUT.false)) c.take_steps-taken.ensures c.read_pairs.ensures

-- a text that is put at the front of what was lent
put_first : {old new : Page} {output text whole : List ℕ} → old.buffer.now ≡ output → old.place ≡ 0 → Put old new text → text ≡ whole
    → {lent : List ℕ} → lent ≡ new.buffer.now
    → (new.place ≡ place_after output 0 whole) × (lent ≡ written output 0 whole)
put_first held place put is ended = (rw (held, place, is) at put.place_after, ended ∙ rw (held, place, is) at put.buffer_after)

pub returns-then-input-gt-MOST_INPUT : goal.returns-then-input-gt-MOST_INPUT
returns-then-input-gt-MOST_INPUT c =
    let new = c.new-page.ensures in
    let put = put_first new.held new.place c.write_result.ensures (sym (too_long c.args.input.now c.if-input-gt-MOST_INPUT.true)) (search rules) in
    record { value = put.0; output_after = put.1 }

pub returns : goal.returns
returns c =
    let new = c.new-page.ensures in
    let text = text-is (goal.at.returns c).After-read_pairs in
    let read = read_text c.take_steps-taken.result.machine c.read_pairs.new.pairs in
    let put : Put c.new-page.result c.match-read_pairs.page (verdict_of c.args.input.now) =
    elim c.match-read_pairs.branch [
      | in-Ok w ↦ rw (w.page-is, text ∙ ap read w.in-Ok.is) w.write_mark.ensures
      | in-Err w ↦ rw (w.page-is, text ∙ ap read w.in-Err.is) w.write_result-in-Err.ensures
    ] in
    let whole = put_first new.held new.place put refl (search rules) in
    record { value = whole.0; output_after = whole.1 }

pub read_pairs-requires : goal.read_pairs-requires
read_pairs-requires c =
    let taken = c.take_steps-taken.ensures in
    (omega (arith, taken.within, c.if-input-gt-MOST_INPUT.false), omega (arith, taken.counted, c.if-input-gt-MOST_INPUT.false), refl)
