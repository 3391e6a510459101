-- Laws of a call that logs many cells: it is what single LOG steps do, and how a loop over the cells comes to it.
use Rattle.std.specs.Prelude.{Ok, Err}
use Prim.Native.Nat.{ℕ, suc, ◌+◌, ◌≤◌, ◌<◌}
use native.Mathlib.Nat.{add-zero, zero-add}
use native.Mathlib.Numerals.{add-one}
use native.Mathlib.Omega.{arith}
use mathlib.Core.Path.{◌≡◌, refl, sym, ap, ap₂, ◌∙◌}
use mathlib.Core.Bool.{Bool, true, false, cond, true≢false}
use mathlib.Core.List.{List, [], ◌∷◌}
use lib.ListN.{length, get_or, drop, drop_of_length-le}
use lib.Dec.{ltb}
use lib.Seq.{drop-cons}
use borrow.Author.Tests.{lt-ltb, le-ltb}
use Rattle.answer.specs.Answer.{number_of, is_accepted}
use Rattle.answer.specs.Refusals.{◌⇒◌, unless}
use Rattle.answer.specs.Answer.{Answer}
use Rattle.answer.specs.declared.Refusal.{Refusal}
use Rattle.answer.specs.declared.Refusal.TheVariants.{TooManyCells}
use Rattle.answer.proofs.RefusalLaws.{unless-cases}
use Rattle.machine.specs.Runs.{step_with, after, answers}
use Rattle.machine.specs.Steps.{step_of}
use Rattle.machine.specs.State.{Machine}
use Rattle.machine.specs.declared.Stepped.{Stepped}
use Rattle.machine.proofs.StepLaws.{refused-stays}
use Rattle.batch.specs.Batch.{most_cells, log_step, none_logged, many_before, one_before, log_each, log_cells_of, first_logs, LogsSingly, AllLogSingly}
use Rattle.batch.specs.declared.CellsLogged.{CellsLogged}

-- an accepted answer has the number 0
accepted-zero : (answer : Answer) → is_accepted answer ≡ true → number_of answer ≡ 0
accepted-zero (Ok given) is = refl
accepted-zero (Err refusal) is = absurd (true≢false (sym is))

-- ---- single LOG steps

module _ (machine : Machine) (thread cell : ℕ) (cells : List ℕ) where
  abbrev first : Stepped
  first = step_with machine (log_step thread cell)

  -- the first cell is accepted, and the others are logged from there
  first_taken : {rest : CellsLogged} → is_accepted first.answer ≡ true → LogsSingly first.machine thread cells rest →
      LogsSingly machine thread (cell ∷ cells) (one_before rest)
  unfolding after answers
  first_taken is_taken rest = record {
    most = omega (arith, rest.most);
    same_machine = rest.same_machine;
    all_accepted = ap₂ (λ (number : ℕ) (numbers : List ℕ). number ∷ numbers) (accepted-zero first.answer is_taken) rest.all_accepted;
    stopped = λ less. rest.stopped (omega arith);
    all_logged = λ all. rest.all_logged (omega arith);
  }

  -- the first cell is refused
  first-refused : is_accepted first.answer ≡ false → LogsSingly machine thread (cell ∷ cells) (none_logged machine first.answer)
  unfolding after answers
  first-refused is_refused = record {
    most = omega arith;
    same_machine = refl;
    all_accepted = refl;
    stopped = λ less. (
      ap (λ (next : Machine). record { answer = first.answer; machine = next }) (refused-stays machine 2 thread cell 0 is_refused),
      is_refused,
    );
    all_logged = λ all. absurd (omega arith);
  }

  -- the first cell goes either way
  first-tried : {rest : CellsLogged} → LogsSingly first.machine thread cells rest →
      LogsSingly machine thread (cell ∷ cells)
      (cond (is_accepted first.answer) (one_before rest) (none_logged machine first.answer))
  first-tried {rest} others = by_answer (is_accepted first.answer) refl
    where
      by_answer : (is_taken : Bool) → is_accepted first.answer ≡ is_taken →
          LogsSingly machine thread (cell ∷ cells) (cond is_taken (one_before rest) (none_logged machine first.answer))
      by_answer true is = first_taken is others
      by_answer false is = first-refused is

-- cells logged one after the other, however many
each_singly : (machine : Machine) (thread : ℕ) (cells : List ℕ) → LogsSingly machine thread cells (log_each machine thread cells)
unfolding log_each after answers
each_singly machine thread [] = record {
  most = omega arith;
  same_machine = refl;
  all_accepted = refl;
  stopped = λ less. absurd (omega arith);
  all_logged = λ all. refl;
}
each_singly machine thread (cell ∷ cells) =
    first-tried machine thread cell cells (each_singly (step_with machine (log_step thread cell)).machine thread cells)

pub all_log_singly : AllLogSingly
unfolding log_cells_of unless
all_log_singly machine thread cells within = rw (le-ltb most_cells (length cells) within) (each_singly machine thread cells)

-- the machine after a call is that of the accepted cells' LOG steps; where the list is too long, that of none
pub logged_after : (machine : Machine) (thread : ℕ) (cells : List ℕ) →
    let logged = log_cells_of machine thread cells in
    logged.machine ≡ after machine (first_logs thread cells logged.count)
unfolding log_cells_of after
logged_after machine thread cells =
    unless-cases
    (λ (logged : CellsLogged). logged.machine ≡ after machine (first_logs thread cells logged.count))
    (none_logged machine)
    ((ltb most_cells (length cells) ⇒ TooManyCells) ∷ [])
    (log_each machine thread cells)
    (λ refusal. refl)
    (λ fails. (each_singly machine thread cells).same_machine)

-- ---- a loop over the cells

-- what a call leaves whose first so many cells were accepted
abbrev pub leaves : ℕ → Answer → Machine → CellsLogged
leaves count answer machine = record { count = count; answer = answer; machine = machine }

-- the cells from a place on, after so many that were accepted: the one there is accepted, or refused
module _ (machine : Machine) (thread : ℕ) (cells : List ℕ) (tried count : ℕ) (within : tried < length cells) {stepped : Stepped}
    (is : stepped ≡ step_of machine 2 thread (get_or cells tried 0) 0) where
  pub each-taken : {given : ℕ} → stepped.answer ≡ Ok given →
      many_before count (log_each machine thread (drop tried cells)) ≡
      many_before (count + 1) (log_each stepped.machine thread (drop (tried + 1) cells))
  unfolding log_each
  each-taken is_taken =
      let rest : CellsLogged = log_each stepped.machine thread (drop (suc tried) cells) in
      let taken = ap (λ (one : Stepped). one.answer) (sym is) ∙ is_taken in
      rw (drop-cons cells tried 0 within, taken, ← is, add-one tried)
      (ap (λ (count : ℕ). leaves count rest.answer rest.machine) (omega arith))

  pub each-refused : {refusal : Refusal} → stepped.answer ≡ Err refusal →
      many_before count (log_each machine thread (drop tried cells)) ≡ leaves count (Err refusal) stepped.machine
  unfolding log_each
  each-refused {refusal} is_refused =
      let refused = ap (λ (one : Stepped). one.answer) (sym is) ∙ is_refused in
      let stays = refused-stays machine 2 thread (get_or cells tried 0) 0 (ap is_accepted refused) in
      rw (drop-cons cells tried 0 within, refused)
      (ap₂ (λ (count : ℕ) (next : Machine). leaves count (Err refusal) next) (add-zero count)
      (sym stays ∙ ap (λ (one : Stepped). one.machine) (sym is)))

-- no cell is left
pub each-end : (machine : Machine) (thread : ℕ) (cells : List ℕ) (tried count : ℕ) → length cells ≤ tried →
    many_before count (log_each machine thread (drop tried cells)) ≡ leaves count (Ok 0) machine
unfolding log_each
each-end machine thread cells tried count past =
    rw (drop_of_length-le cells past) (ap (λ (count : ℕ). leaves count (Ok 0) machine) (add-zero count))

-- too long a list, and one that is not
module _ (machine : Machine) (thread : ℕ) (cells : List ℕ) where
  pub too_long : most_cells < length cells → leaves 0 (Err TooManyCells) machine ≡ log_cells_of machine thread cells
  unfolding log_cells_of unless
  too_long long = rw (lt-ltb most_cells (length cells) long)

  pub short : length cells ≤ most_cells → {logged : CellsLogged} → logged ≡ many_before 0 (log_each machine thread cells) →
      logged ≡ log_cells_of machine thread cells
  unfolding log_cells_of unless
  short fits {logged} is =
      let each : CellsLogged = log_each machine thread cells in
      is ∙ rw (le-ltb most_cells (length cells) fits) (ap (λ (count : ℕ). leaves count each.answer each.machine) (zero-add each.count))
