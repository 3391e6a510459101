-- A step that makes an entry, as code takes it: its own tests, then the append, whose refusal or LSN it goes on with.
use Rattle.std.specs.Prelude.{Ok, Err}
use Prim.Native.Nat.{ℕ}
use mathlib.Core.Path.{◌≡◌, sym, ap, ◌∙◌}
use mathlib.Core.List.{List, ◌++◌}
use Rattle.answer.specs.Answer.{Answer}
use Rattle.answer.specs.Refusals.{Test, unless, first_refusal}
use Rattle.answer.specs.declared.Refusal.{Refusal}
use Rattle.thread_log.specs.Entries.{Changed, append_tests}
use Rattle.thread_log.specs.declared.Log.{Log}
use Rattle.undo.specs.Entering.{enter_of, entered_of}
use Rattle.event.specs.declared.Event.{Event}
use Rattle.undo.proofs.Entered.{changed_by, entered, accepted-goes, refused-stops}

module _ {A : Type 0} (log : Log) (event : Event) (own : List Test)
    {asked : Answer} (is_asked : asked ≡ first_refusal own) {changed : Changed} (is_changed : changed ≡ entered_of log asked event)
    (refuse : Answer → Log → A) where
  -- the append's tests stand after the step's own
  tests : List Test
  tests = own ++ append_tests log

  changes : changed ≡ changed_by log (enter_of log event) log.tail.next.0 tests
  unfolding tests
  changes = is_changed ∙ rw is_asked (entered log event own)

  -- a test held: the step is refused, with the log as it was
  pub entry-refused : (outcome : A) {refusal : Refusal} → changed.answer ≡ Err refusal
      → refuse (Err refusal) changed.log ≡ unless (λ answer. refuse answer log) (own ++ append_tests log) outcome
  unfolding tests
  entry-refused outcome {refusal = refusal} is_refused =
      let stops = refused-stops (λ answer. refuse answer log) outcome log (enter_of log event) log.tail.next.0 tests changes is_refused in
      ap (refuse (Err refusal)) stops.1 ∙ sym stops.0

  -- no test held: the step is taken, with the entry in the log
  pub entry-made : (take : Answer → Log → A) {lsn : ℕ} → changed.answer ≡ Ok lsn
      → take (Ok lsn) changed.log
      ≡ unless (λ answer. refuse answer log) (own ++ append_tests log) (take (Ok log.tail.next.0) (enter_of log event))
  unfolding tests
  entry-made take is_made =
      let outcome = take (Ok log.tail.next.0) (enter_of log event) in
      let goes = accepted-goes (λ answer. refuse answer log) outcome log (enter_of log event) log.tail.next.0 tests changes is_made in
      ap (λ (answer : Answer). take answer changed.log) (sym is_made)
      ∙ ap (λ (change : Changed). take change.answer change.log) goes.1
      ∙ sym goes.0
