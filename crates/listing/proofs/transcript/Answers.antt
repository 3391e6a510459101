-- `listing::transcript` meets its contract. The loop's invariant: what is written so far, and what the machine prints for the lines that
-- are left, is the transcript.
use Prim.Native.Nat.{◌≤◌, ◌<◌}
use mathlib.Core.Path.{◌≡◌, refl, ap, ◌∙◌}
use mathlib.Core.Bool.{true, false}
use mathlib.Core.List.{[]}
use native.Mathlib.Omega.{arith}
use borrow.Author.Rules.{rules}
use lib.ListN.{length}
use Rattle.std.specs.Prelude.{Some}
use Rattle.buffer.proofs.BufferLaws.{wrote_nothing, placed}
use Rattle.listing.specs.Transcript.{most_input, transcript_of, transcript_in}
use Rattle.listing.proofs.Printing.{print-refused, print-long, printing_start}
use Rattle.listing.proofs.Printing.{printing-unreadable, printing-step}
use Rattle.listing.proofs.TranscriptLaws.{by-line, printed-fits, cells_fit, printing_end}
use Rattle.listing.proofs.transcript.Invariants.{text}
use Rattle.listing.proofs.InputLaws.{some_left, nothing_left, after-shorter}
use Rattle.listing.proofs.transcript.Goals as goal
use Rattle.listing.proofs.transcript.Goals.{After-is_empty, in_default-via-in-Some+in_default, in_default-via-in_default}

-- something is left of the input in a turn of the loop, and nothing after it
more : (c : After-is_empty) → c.is_empty.result ≡ false → 0 < length c.loop-rest.rest.now
more c not_empty = some_left c.loop-rest.rest.now c.is_empty.ensures not_empty

none : (c : After-is_empty) → c.is_empty.result ≡ true → length c.loop-rest.rest.now ≤ 0
none c empty = nothing_left c.loop-rest.rest.now c.is_empty.ensures empty

pub returns-then-output-lt-TRANSCRIPT_ROOM : goal.returns-then-output-lt-TRANSCRIPT_ROOM
unfolding transcript_in transcript_of
returns-then-output-lt-TRANSCRIPT_ROOM c = let args = c.args in
    print-refused args.input.now (text args.input.now) args.output.now c.if-output-lt-TRANSCRIPT_ROOM.true

pub returns-then-input-gt-MOST_INPUT : goal.returns-then-input-gt-MOST_INPUT
unfolding transcript_in transcript_of
returns-then-input-gt-MOST_INPUT c = let wrote = c.write_result in
    let args = c.args in
    print-long args.input.now (text args.input.now) args.output.now c.if-output-lt-TRANSCRIPT_ROOM.false
    (omega (arith, c.if-input-gt-MOST_INPUT.true)) (search rules, search rules)

pub loop-rest-init : goal.loop-rest-init
loop-rest-init c = let args = c.args in
    let new = c.new-page.ensures in
    let short : length args.input.now ≤ most_input = omega (arith, c.if-input-gt-MOST_INPUT.false) in
    record {
      same = refl;
      printing = rw (new.held, new.place)
          (printing_start [] short (printed-fits args.input.now short) c.if-output-lt-TRANSCRIPT_ROOM.false (wrote_nothing args.output.now)
          c.start_machine-machine.ensures);
    }

pub returns-in_default : goal.returns-in_default
unfolding transcript_in transcript_of
returns-in_default c = let wrote = c.write_result-in_default in
    printing-unreadable c.loop-rest.invariant.printing (more (goal.at.returns-in_default c).After-is_empty c.loop-rest-test.true) c.first_line.ensures by-line
    (elim c.in_default.branch [
      | in_default-via-in-Some+in_default w ↦ (λ kind thread place value says. let h = ap (λ x. x) w.in_default.is in search rules)
      | in_default-via-in_default w ↦ (λ kind thread place value says. cc)
    ])
    (search rules, search rules)

pub loop-rest-preserved : goal.loop-rest-preserved
loop-rest-preserved c = let wrote = c.write_result-in-loop-rest in record {
  same = wrote.ensures.same_reference ∙ c.loop-rest.invariant.same;
  printing = printing-step c.loop-rest.invariant.printing (more (goal.at.loop-rest-preserved c).After-is_empty c.loop-rest-test.true) c.first_line.ensures
      (c.in-Some-Step.is ∙ ap Some c.in-Some-Step.field-0-is) c.take-answer.ensures by-line
      c.after_line-rest.ensures (wrote.ensures.place_after, wrote.ensures.buffer_after);
}

pub loop-rest-smaller : goal.loop-rest-smaller
loop-rest-smaller c =
    rw c.after_line-rest.ensures (after-shorter c.loop-rest.rest.now (more (goal.at.loop-rest-smaller c).After-is_empty c.loop-rest-test.true))

pub write_recovered-requires : goal.write_recovered-requires
write_recovered-requires c = let so_far = c.loop-rest.invariant.printing in
    cells_fit so_far (none (goal.at.write_recovered-requires c).After-is_empty c.loop-rest-test.false)

pub returns : goal.returns
unfolding transcript_in transcript_of
returns c = let wrote = c.write_recovered in
    let at = c.loop-rest.page in
    let so_far = c.loop-rest.invariant.printing in
    let nothing = none (goal.at.returns c).After-is_empty c.loop-rest-test.false in
    printing_end so_far nothing
    (wrote.ensures.place_after ∙ placed at.buffer.now at.place _ (cells_fit so_far nothing), search rules)
