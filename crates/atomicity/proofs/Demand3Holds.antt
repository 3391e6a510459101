-- Demand 3 holds, and every lawful order of undoing ends in the same cells, a claimed one that is accepted too.
-- The parts: `run_holds` (all concerns, for every list of steps from any beginning), `undoable` (what the image of a cut has), `recovers`
-- and `any_order` (the undoing lemma), and `before-leads` with `leads_pruned` (committed regions are closed under happens-before).
use Rattle.std.specs.Prelude.{Ok}
use Prim.Native.Nat.{ℕ}
use mathlib.Core.Path.{◌≡◌, sym, ap, ◌∙◌}
use mathlib.Core.Bool.{true}
use mathlib.Core.List.{List}
use lib.ListN.{length, take}
use lib.Dec.{ltb}
use borrow.Author.Tests.{eq-eqb, ltb-true, lt-ltb}
use Rattle.answer.specs.Refusals.{unless, Outcome}
use Rattle.cache.specs.Cache.{cell_count}
use Rattle.thread_log.specs.declared.Log.{Log}
use Rattle.reader.specs.Stretch.{image_words}
use Rattle.machine.specs.Image.{image_of, cut_of}
use Rattle.machine.specs.Runs.{Step, after}
use Rattle.machine.specs.State.{Machine}
use Rattle.machine.proofs.Beginnings.{machine_with, AllIdle}
use Rattle.machine.proofs.Counts.{Counted, effect-counted, begin-counted, after-counted}
use Rattle.machine.proofs.StepLaws.{after-keeps}
use Rattle.image.specs.Stored.{stored_logs}
use Rattle.undoing.specs.Undo.{undo_start}
use Rattle.recovery.specs.Recover.{recover_of}
use Rattle.order.specs.Check.{pairs_of}
use Rattle.order.proofs.ClaimsHold.{accepts}
use Rattle.reference.specs.Reference.{empty_book, cells_of, is_committed_at}
use Rattle.atomicity.specs.AnyOrder.{AnyOrder}
use Rattle.atomicity.specs.Undoes.{Undoes}
use Rattle.atomicity.specs.Demand3.{Recovers, Demand3}
use Rattle.atomicity.specs.HappensBefore.{RegionBefore}
use Rattle.atomicity.specs.History.{Fed, step_at, history_of, fed_book, machine_after}
use Rattle.atomicity.proofs.Leads.{leads_pruned}
use Rattle.atomicity.proofs.Places.{last_of, before-leads}
use Rattle.atomicity.proofs.Recovered.{reads, heads-good, entries-good, final, final-length, undoable}
use Rattle.atomicity.proofs.Undoing.{any_order, recovers}
use Rattle.atomicity.proofs.RunInvariant.{RunInvariant, book_of}
use Rattle.atomicity.proofs.RunInvariantHolds.{begin-run, run_holds, start-length, after_run}
use Rattle.atomicity.proofs.MachineInvariant.{Beginning, entries_of}

-- with each committed region, every region that happens before it is committed
closed_regions : {start : Beginning} {machine : Machine} {history : List Fed} → RunInvariant start machine history → (earlier later : ℕ)
    → RegionBefore start.cells history earlier later → is_committed_at (book_of start history).regions later ≡ true
    → is_committed_at (book_of start history).regions earlier ≡ true
closed_regions {start} {machine} {history} run_holds earlier later before is_committed =
    let entries = entries_of start machine run_holds.ghost in
    let first = run_holds.joined before.step earlier before.is_step in
    let second = run_holds.joined before.later_step later before.is_later_step in
    let leads = before-leads run_holds.machine_holds.places before.happens_before in
    let head = entries.head (step_at history before.later_step).thread in
    let number = last_of entries history before.later_step in
    let is_pruned : ltb number head ≡ true =
    sym (run_holds.regions.committed second.0) ∙
    (ap (is_committed_at (book_of start history).regions) second.1 ∙ is_committed) in
    let pruned = leads_pruned run_holds.machine_holds.prunes leads (ltb-true number head is_pruned) in
    sym (ap (is_committed_at (book_of start history).regions) first.1) ∙ (run_holds.regions.committed first.0 ∙ lt-ltb _ _ pruned)

-- where all concerns hold, recovery accepts the image of a cut and finds the reference model's cells
run_recovers : {start : Beginning} {machine : Machine} {history : List Fed} → RunInvariant start machine history → Counted machine
    → length start.cells ≡ cell_count → (buffer : List ℕ) → length buffer ≡ cell_count
    → ((recover_of (image_of machine) buffer).answer ≡ Ok 0)
    × ((recover_of (image_of machine) buffer).buffer ≡ cells_of (book_of start history))
run_recovers {start} {machine} {history} run_holds counted is_length buffer is_buffer =
    recovers
    (image_of machine)
    buffer
    (final run_holds counted is_length)
    (reads run_holds counted is_length).length_is
    is_buffer
    (heads-good run_holds counted is_length)
    (entries-good run_holds counted is_length)
    (undoable run_holds counted is_length)

-- over a lent buffer of 1,156 words the cut writes its image
pub cut-writes : (machine : Machine) (image : List ℕ) → length image ≡ image_words
    → cut_of machine image ≡ record { answer = Ok 0; buffer = image_of machine }
unfolding cut_of unless
cut-writes machine image is_image = rw (eq-eqb (length image) image_words is_image)

-- from any beginning every list of steps recovers to the reference model's cells, with the beginning's cells as the start cells
pub begin_recovers : (cells : List ℕ) (logs : List Log) → length cells ≡ cell_count → AllIdle logs → (steps : List Step) (buffer : List ℕ)
    → length buffer ≡ cell_count
    → ((recover_of (image_of (after (machine_with cells logs) steps)) buffer).answer ≡ Ok 0)
    × ((recover_of (image_of (after (machine_with cells logs) steps)) buffer).buffer
    ≡ cells_of (fed_book (empty_book cells) (history_of (machine_with cells logs) steps)))
begin_recovers cells logs is_length all steps buffer is_buffer =
    run_recovers
    (run_holds (machine_with cells logs) (begin-run cells logs is_length all) steps)
    (after-keeps Counted effect-counted (machine_with cells logs) (begin-counted cells logs all) steps)
    is_length
    buffer
    is_buffer

-- from the start call, over any two buffers that 21 lets pass, every list of steps recovers to the reference model's cells
pub cut_recovers : (words : List ℕ) (steps : List Step) (image buffer : List ℕ) → length image ≡ image_words → length buffer ≡ cell_count
    → Recovers words steps image buffer
cut_recovers words steps image buffer is_image is_buffer =
    let run_holds = after_run words steps in
    let counted = after-counted words steps in
    let written = cut-writes (machine_after words steps) image is_image in
    let found = run_recovers run_holds counted (start-length words) buffer is_buffer in
    record {
      cuts = ap (λ (cut : Outcome). cut.answer) written;
      accepts = ap (λ (cut : Outcome). (recover_of cut.buffer buffer).answer) written ∙ found.0;
      cells = ap (λ (cut : Outcome). (recover_of cut.buffer buffer).buffer) written ∙ found.1;
      all128 = final-length run_holds counted (start-length words);
      closed = closed_regions run_holds;
    }

-- demand 3 holds, for every start, every list of steps and every cut
pub demand_3 : Demand3
demand_3 words steps cut image buffer within is_image is_buffer = cut_recovers words (take cut steps) image buffer is_image is_buffer

-- every order of all present entries of a machine's image undoes to the reference model's cells
pub any_lawful_order : AnyOrder
unfolding undo_start
any_lawful_order words steps cut within order is_order =
    let run_holds = after_run words (take cut steps) in
    let counted = after-counted words (take cut steps) in
    let start = start-length words in
    let image = image_of (machine_after words (take cut steps)) in
    any_order
    (stored_logs image)
    (undo_start image).left
    (undo_start image).cells
    (final run_holds counted start)
    (undoable run_holds counted start)
    order
    is_order

-- so does a list that is accepted for a machine's image, and recovery gives these cells
pub undoes : Undoes
undoes words steps cut pairs buffer within is_buffer is_accepted =
    let kept = take cut steps in
    let is_order = (accepts (image_of (machine_after words kept)) pairs).is_order is_accepted in
    any_lawful_order words steps cut within (pairs_of pairs) is_order
    ∙ sym (run_recovers (after_run words kept) (after-counted words kept) (start-length words) buffer is_buffer).1
