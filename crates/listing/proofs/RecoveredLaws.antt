-- Laws of the cells that a cut and recovery give: what the two calls leave is the definition's, and there are at most 128.
use Prim.Native.Nat.{ℕ, zero, suc, ◌-◌, ◌≤◌}
use mathlib.Core.Path.{◌≡◌, refl, ◌∙◌, ap}
use mathlib.Core.Bool.{Bool, true, false, cond}
use mathlib.Core.List.{List}
use Rattle.std.specs.Prelude.{Option, None, Some}
use native.Mathlib.Omega.{arith}
use lib.ListN.{length, set, replicate, length-set, length-take}
use lib.Dec.{eqb}
use Rattle.sizes.specs.Sizes.{thread_count}
use Rattle.answer.specs.Refusals.{Outcome, unless}
use Rattle.answer.specs.Answer.{Answer}
use Rattle.answer.proofs.RefusalLaws.{unless-cases}
use Rattle.cache.specs.Cache.{cell_count}
use Rattle.machine.specs.Image.{image_of, cut_of}
use Rattle.machine.specs.State.{Machine}
use Rattle.image.specs.Stored.{StoredLog, stored_logs, stored_log, entry_kind, entry_place, entry_value}
use Rattle.image.specs.Tests.{image_tests}
use Rattle.undoing.specs.Undo.{Undo, left_of, lowest_from, take_last, take_from, take_next, take_many, undo_start, undone}
use Rattle.recovery.specs.Recover.{recover_tests, recover_of}
use Rattle.listing.specs.Transcript.{recovered_cells}
use Rattle.reader.specs.Stretch.{heads_at}

-- a cut into a buffer of 1,156 words writes the image
pub cut_image : (machine : Machine) {image : List ℕ} {answer : Answer}
    → ◌≡◌ {A = Outcome} (record { answer = answer; buffer = image }) (cut_of machine (replicate 1156 0))
    → image ≡ image_of machine
unfolding cut_of unless
cut_image machine cut = ap (λ (outcome : Outcome). outcome.buffer) cut

-- the cut and recovery, one after the other
pub recovered_are : (machine : Machine) {image cells : List ℕ} {answer answer' : Answer}
    → ◌≡◌ {A = Outcome} (record { answer = answer; buffer = image }) (cut_of machine (replicate 1156 0))
    → ◌≡◌ {A = Outcome} (record { answer = answer'; buffer = cells }) (recover_of image (replicate 128 0))
    → cells ≡ recovered_cells machine
unfolding recovered_cells
recovered_are machine cut recovered =
    ap (λ (outcome : Outcome). outcome.buffer) recovered
    ∙ ap (λ (image : List ℕ). (recover_of image (replicate 128 0)).buffer) (cut_image machine cut)

-- an entry that is taken keeps the number of cells
taken_long : (logs : List StoredLog) (undo : Undo) (next : Option ℕ) → length (take_from logs undo next).cells ≡ length undo.cells
unfolding take_last
taken_long logs undo None = refl
taken_long logs undo (Some thread) =
    let log = stored_log logs thread in
    let last = left_of undo.left thread - 1 in
    kept (eqb (entry_kind log last) 1) undo.cells (entry_place log last) (entry_value log last)
  where
    kept : (stores : Bool) (cells : List ℕ) (place value : ℕ) → length (cond stores (set cells place value) cells) ≡ length cells
    kept true cells place value = length-set cells place value
    kept false cells place value = refl

-- an undo keeps the number of cells
undo_long : (count : ℕ) (logs : List StoredLog) (undo : Undo) → length (take_many count logs undo).cells ≡ length undo.cells
unfolding take_many take_next
undo_long zero logs undo = refl
undo_long (suc count) logs undo =
    undo_long count logs (take_next logs undo) ∙ taken_long logs undo (lowest_from logs undo.left 0 thread_count)

-- there are no more than 128 recovered cells
pub recovered-most : (machine : Machine) → length (recovered_cells machine) ≤ 128
unfolding recovered_cells recover_of recover_tests image_tests undone undo_start
recovered-most machine =
    unless-cases (λ (outcome : Outcome). length outcome.buffer ≤ 128) _
    (recover_tests (image_of machine) (replicate cell_count 0)) _
    (λ refusal. omega arith)
    (λ none-holds.
    omega (arith, undo_long 256 (stored_logs (image_of machine)) (undo_start (image_of machine)), length-take heads_at (image_of machine)))
