-- A step that makes an entry under its own tests: one outcome for these and the append's, and what the answer's number tells of it.
use Rattle.std.specs.Prelude.{Ok, Err}
use Prim.Native.Nat.{ℕ}
use mathlib.Core.Path.{◌≡◌, refl, sym, ap, ◌∙◌}
use mathlib.Core.Bool.{true, false}
use mathlib.Core.List.{List, [], ◌∷◌, ◌++◌}
use Rattle.answer.specs.Refusals.{Test, ◌⇒◌, unless, first_refusal}
use Rattle.answer.specs.Answer.{Answer}
use Rattle.answer.specs.declared.Refusal.{Refusal}
use Rattle.answer.proofs.RefusalLaws.{one-stops, none-stops}
use Rattle.thread_log.specs.Entries.{Changed, append_tests, appended_of}
use Rattle.thread_log.specs.declared.Log.{Log}
use Rattle.undo.specs.Entering.{enter_of, entered_of}
use Rattle.event.specs.declared.Event.{Event}

-- a change of a log under these tests
abbrev pub changed_by : Log → Log → ℕ → List Test → Changed
changed_by log next given tests =
    unless (λ answer. record { answer = answer; log = log }) tests (record { answer = Ok given; log = next })

-- an append under a step's own tests is decided by these and then by the append's
pub entered : (log : Log) (event : Event) (own : List Test)
    → entered_of log (first_refusal own) event ≡ changed_by log (enter_of log event) log.tail.next.0 (own ++ append_tests log)
unfolding unless first_refusal appended_of entered_of
entered log event [] = refl
entered log event ((true ⇒ refusal) ∷ own) = refl
entered log event ((false ⇒ refusal) ∷ own) = entered log event own

-- whatever else a step's tests decide goes the same way as the change of a log under them
module _ {A : Type 0} (refuse : Answer → A) (outcome : A) (log next : Log) (given : ℕ) (tests : List Test) {changed : Changed}
    (is : changed ≡ changed_by log next given tests) where
  pub accepted-goes : {answered : ℕ} → changed.answer ≡ Ok answered
      → (unless refuse tests outcome ≡ outcome) × (changed ≡ record { answer = Ok given; log = next })
  accepted-goes accepted =
      let both =
      none-stops
      refuse
      outcome
      (λ answer. record { answer = answer; log = log })
      (record { answer = Ok given; log = next })
      (λ (change : Changed). change.answer)
      (λ refusal. refl)
      tests
      (ap (λ (change : Changed). change.answer) (sym is) ∙ accepted) in
      (both.0, is ∙ both.1)

  pub refused-stops : {refusal : Refusal} → changed.answer ≡ Err refusal
      → (unless refuse tests outcome ≡ refuse (Err refusal)) × (changed.log ≡ log)
  refused-stops refused =
      let report : Answer → Changed = λ answer. record { answer = answer; log = log } in
      let done : Changed = record { answer = Ok given; log = next } in
      let decided = ap (λ (change : Changed). change.answer) (sym is) ∙ refused in (
        one-stops refuse outcome report done (λ (change : Changed). change.answer) (λ refusal. refl) tests refl decided,
        ap
            (λ (change : Changed). change.log)
            (is ∙ one-stops report done report done (λ (change : Changed). change.answer) (λ refusal. refl) tests refl decided),
      )
