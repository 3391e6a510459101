-- `cuts::all_cuts` meets its contract. The loop's invariant: in any buffer in which the cut at the start was written first, what is written
-- so far, and what is printed for the lines that are left, are all cuts.
use Rattle.std.specs.Prelude.{Some}
use Prim.Native.Nat.{◌≤◌, ◌<◌}
use mathlib.Core.Path.{◌≡◌, refl, ap, ◌∙◌}
use mathlib.Core.Bool.{true, false}
use native.Mathlib.Omega.{arith}
use borrow.Author.Rules.{rules}
use lib.ListN.{length}
use Rattle.machine.specs.declared.Stepped.{Stepped}
use Rattle.listing.specs.Transcript.{most_input, start_machine}
use Rattle.listing.proofs.Printing.{Printing, print-refused, print-long, printing_start}
use Rattle.listing.proofs.Printing.{printing-unreadable, printing-step}
use Rattle.cuts.specs.Cuts.{cut_text, cuts_from, cuts_of, cuts_in}
use Rattle.cuts.proofs.CutsLaws.{by-line, cuts_text, cuts_fit, first-cut, printing_end}
use Rattle.listing.proofs.InputLaws.{some_left, nothing_left, after-shorter}
use Rattle.cuts.proofs.all_cuts.Goals as goal
use Rattle.cuts.proofs.all_cuts.Goals.{After-is_empty, After-start-started, At-loop-rest}

-- the machine of the start call
started : (c : After-start-started) → c.start-started.result.machine ≡ start_machine
unfolding start_machine
started c = ap (λ (stepped : Stepped). stepped.machine) c.start-started.ensures

-- what is written so far, in the buffer that was lent
so_far : (c : At-loop-rest)
    → let args = c.args in
    let at = c.loop-rest in
    Printing cuts_from (cuts_text args.input.now) args.input.now args.output.now at.page.buffer.now at.machine at.number
    at.rest.now at.page.place
unfolding start_machine
so_far c =
    let wrote = c.write_cut.ensures in
    let new = c.new-page.ensures in
    let room = c.if-output-lt-TRANSCRIPT_ROOM.false in
    let old = c.args.output.now in
    let is = ap (λ (stepped : Stepped). stepped.machine) c.start-started.ensures in
    c.loop-rest.invariant.printing old room
    (first-cut old room is (rw (new.held, new.place) at wrote.place_after, rw (new.held, new.place) at wrote.buffer_after))

-- something is left of the input in a turn of the loop, and nothing after it
more : (c : After-is_empty) → c.is_empty.result ≡ false → 0 < length c.loop-rest.rest.now
more c not_empty = some_left c.loop-rest.rest.now c.is_empty.ensures not_empty

none : (c : After-is_empty) → c.is_empty.result ≡ true → length c.loop-rest.rest.now ≤ 0
none c empty = nothing_left c.loop-rest.rest.now c.is_empty.ensures empty

pub returns-then-output-lt-TRANSCRIPT_ROOM : goal.returns-then-output-lt-TRANSCRIPT_ROOM
unfolding cuts_in cuts_of
returns-then-output-lt-TRANSCRIPT_ROOM c = let args = c.args in
    print-refused args.input.now (cuts_text args.input.now) args.output.now c.if-output-lt-TRANSCRIPT_ROOM.true

pub returns-then-input-gt-MOST_INPUT : goal.returns-then-input-gt-MOST_INPUT
unfolding cuts_in cuts_of
returns-then-input-gt-MOST_INPUT c = let wrote = c.write_result in
    let args = c.args in
    print-long args.input.now (cuts_text args.input.now) args.output.now c.if-output-lt-TRANSCRIPT_ROOM.false
    (omega (arith, c.if-input-gt-MOST_INPUT.true)) (search rules, search rules)

pub loop-rest-init : goal.loop-rest-init
loop-rest-init c = let args = c.args in
    let short : length args.input.now ≤ most_input = omega (arith, c.if-input-gt-MOST_INPUT.false) in
    record {
      same = refl;
      printing = λ old room wrote. printing_start (cut_text 0 start_machine) short (cuts_fit args.input.now short) room wrote (started (goal.at.loop-rest-init c).After-start-started);
    }

pub returns-in_default : goal.returns-in_default
unfolding cuts_in cuts_of
returns-in_default c = let wrote = c.write_result-in_default in
    printing-unreadable (so_far (goal.at.returns-in_default c).At-loop-rest) (more (goal.at.returns-in_default c).After-is_empty c.loop-rest-test.true) c.first_line.ensures by-line (λ kind thread place value says. search rules)
    (search rules, search rules)

pub overflow_add-number : goal.overflow_add-number
overflow_add-number c = let at = so_far (goal.at.overflow_add-number c).At-loop-rest in
    omega (arith, at.short, at.counted)

pub loop-rest-preserved : goal.loop-rest-preserved
loop-rest-preserved c = let wrote = c.write_cut-in-loop-rest in
    record {
      same = wrote.ensures.same_reference ∙ c.loop-rest.invariant.same;
      printing = λ old room first.
          printing-step (c.loop-rest.invariant.printing old room first) (more (goal.at.loop-rest-preserved c).After-is_empty c.loop-rest-test.true) c.first_line.ensures (c.in-Some-Step.is ∙ ap Some c.in-Some-Step.field-0-is) c.take.ensures
          by-line c.after_line-rest.ensures (wrote.ensures.place_after, wrote.ensures.buffer_after);
    }

pub returns : goal.returns
unfolding cuts_in cuts_of
returns c = printing_end (so_far (goal.at.returns c).At-loop-rest) (none (goal.at.returns c).After-is_empty c.loop-rest-test.false) (search rules)

pub loop-rest-smaller : goal.loop-rest-smaller
loop-rest-smaller c =
    rw c.after_line-rest.ensures (after-shorter c.loop-rest.rest.now (more (goal.at.loop-rest-smaller c).After-is_empty c.loop-rest-test.true))
