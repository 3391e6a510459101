-- Whatever lines are evicted just before a cut, recovery finds the same cells: evictions leave the reference model alone.
use Rattle.std.specs.Prelude.{Ok}
use Prim.Native.Nat.{ℕ, zero, suc, ◌+◌, ◌*◌}
use mathlib.Core.Path.{◌≡◌, refl, sym, ap, ap₂, ◌∙◌}
use mathlib.Core.Bool.{Bool, true, false}
use mathlib.Core.List.{List, [], ◌∷◌, ◌++◌, flatten}
use lib.ListN.{length, take, replicate, length-replicate}
use Rattle.answer.specs.Answer.{is_accepted}
use Rattle.answer.specs.Lists.{tab}
use Rattle.answer.specs.Refusals.{Outcome}
use Rattle.answer.specs.Answer.{Answer}
use Rattle.cache.specs.Cache.{cell_count}
use Rattle.reader.specs.Stretch.{image_words}
use Rattle.machine.specs.Image.{image_of}
use Rattle.machine.specs.Runs.{Step, step_with, evict_steps}
use Rattle.machine.specs.State.{Machine}
use Rattle.recovery.specs.Recover.{recover_of}
use Rattle.reference.specs.Reference.{Book, empty_book, feed_accepted, feed, cells_of}
use Rattle.atomicity.specs.History.{start_cells, start_machine, history_of, fed_book, machine_after, book_after}
use Rattle.atomicity.proofs.Demand3Holds.{cut-writes, cut_recovers}
use Rattle.laws.specs.AnyEviction.{evictions, AnyEviction}

-- an EVICTCELL leaves the reference model as it was, accepted or not
feed_evict : (book : Book) (cell : ℕ) (accepted : Bool) → feed book 13 0 cell 0 accepted ≡ book
unfolding feed feed_accepted
feed_evict book cell true = refl
feed_evict book cell false = refl

-- so do so many of them, from any place on
cells_evicted : (book : Book) (machine : Machine) (count : ℕ) (cells : ℕ → ℕ) (others : List Step) →
    ((machine : Machine) → fed_book book (history_of machine others) ≡ book) →
    fed_book book (history_of machine (tab count (λ index. record { kind = 13; thread = 0; place = cells index; value = 0 }) ++ others)) ≡
    book
unfolding fed_book history_of tab
cells_evicted book machine zero cells others stay = stay machine
cells_evicted book machine (suc count) cells others stay =
    let step : Step = record { kind = 13; thread = 0; place = cells 0; value = 0 } in
    let stepped = step_with machine step in
    let rest : List Step = tab count (λ index. record { kind = 13; thread = 0; place = cells (suc index); value = 0 }) ++ others in
    ap (λ (book : Book). fed_book book (history_of stepped.machine rest)) (feed_evict book (cells 0) (is_accepted stepped.answer))
    ∙ cells_evicted book stepped.machine count (λ index. cells (suc index)) others stay

-- evictions of any lines leave the reference model as it was
book_evicted : (book : Book) (machine : Machine) (lines : List ℕ) → fed_book book (history_of machine (evictions lines)) ≡ book
unfolding fed_book history_of evictions evict_steps flatten
book_evicted book machine [] = refl
book_evicted book machine (line ∷ lines) =
    cells_evicted book machine 8 (λ index. line * 8 + index) (evictions lines) (λ machine. book_evicted book machine lines)

-- evictions after any steps leave the reference model as it was after the steps
after-evicted : (book : Book) (machine : Machine) (steps : List Step) (lines : List ℕ)
    → fed_book book (history_of machine (steps ++ evictions lines)) ≡ fed_book book (history_of machine steps)
unfolding fed_book history_of
after-evicted book machine [] lines = book_evicted book machine lines
after-evicted book machine (step ∷ steps) lines =
    let stepped = step_with machine step in
    after-evicted (feed book step.kind step.thread step.place step.value (is_accepted stepped.answer))
    stepped.machine steps lines

-- recovery after any steps, as one equation
pub recovers_as : (words : List ℕ) (steps : List Step) (buffer : List ℕ) → length buffer ≡ cell_count
    → recover_of (image_of (machine_after words steps)) buffer ≡ record { answer = Ok 0; buffer = cells_of (book_after words steps) }
recovers_as words steps buffer is_buffer =
    let image : List ℕ = replicate image_words 0 in
    let found = cut_recovers words steps image buffer (length-replicate {A = ℕ} image_words 0) is_buffer in
    let written = cut-writes (machine_after words steps) image (length-replicate {A = ℕ} image_words 0) in
    ap₂ (λ (answer : Answer) (cells : List ℕ). record { answer = answer; buffer = cells })
    (ap (λ (cut : Outcome). (recover_of cut.buffer buffer).answer) (sym written) ∙ found.accepts)
    (ap (λ (cut : Outcome). (recover_of cut.buffer buffer).buffer) (sym written) ∙ found.cells)

pub any_eviction : AnyEviction
any_eviction words steps cut lines buffer within is_buffer =
    recovers_as words (take cut steps ++ evictions lines) buffer is_buffer ∙
    ap (λ (book : Book). record { answer = Ok 0; buffer = cells_of book })
    (after-evicted (empty_book (start_cells words)) (start_machine words) (take cut steps) lines)
