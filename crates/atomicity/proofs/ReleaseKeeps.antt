-- RELEASE keeps what holds of a machine and its history.
use Rattle.std.specs.Prelude.{None}
use Prim.Native.Nat.{ℕ, suc, ◌+◌, ◌<◌}
use native.Mathlib.Decide.{ℕ_discrete}
use native.Mathlib.Omega.{arith}
use mathlib.Core.Path.{◌≡◌, refl, sym, ap, ◌∙◌}
use mathlib.Core.List.{List}
use mathlib.Core.Logic.{inl, inr, ⊎_elim, by_cases}
use lib.ListN.{length}
use Rattle.sizes.specs.Sizes.{thread_count}
use Rattle.answer.proofs.RefusalLaws.{AllFail}
use Rattle.event.specs.Events.{sync_count}
use Rattle.undo.specs.Entering.{end_release_of}
use Rattle.tail.specs.Tail.{released_tail}
use Rattle.thread_log.specs.declared.Log.{Log}
use Rattle.undo.proofs.UndoInvariant.{UndoHolds, release-holds}
use Rattle.machine.specs.Effects.{release_effect, effect}
use Rattle.machine.specs.Holds.{lock_of}
use Rattle.kinds.specs.declared.Kind.TheVariants.{Release as RELEASE}
use Rattle.locks.specs.declared.Lock.{Lock as LockState}
use Rattle.machine.specs.State.{Machine}
use Rattle.machine.proofs.AcceptedMeans.{release_asked}
use Rattle.machine.proofs.Sizes.{effect-sized}
use Rattle.machine.proofs.StepLaws.{tests_of}
use Rattle.atomicity.specs.History.{Fed}
use Rattle.atomicity.proofs.Logged.{Keeps, still-is, kept-is}
use Rattle.atomicity.proofs.Locks.{prunes_keep, ReleaseLocks, locks-release, count-grows}
use Rattle.atomicity.proofs.Cells.{unchanged, cells_keep}
use Rattle.atomicity.proofs.HistoryRuns.{took_step}
use Rattle.atomicity.proofs.Places.{made_by, places-step}
use Rattle.atomicity.proofs.PrunedCounts.{counted_same, counted_longer}
use Rattle.atomicity.proofs.Times.{times_keep}
use Rattle.atomicity.proofs.LogViews.{log_at, by_log, keep_view, log_same, log_other}
use Rattle.atomicity.proofs.MachineInvariant.{Beginning, Ghost, MachineInvariant, entries_of, locks_of, last-kept, head-kept}
use Rattle.atomicity.proofs.AppendsKeep.{by-lock}
use Rattle.atomicity.proofs.Ordered.{and_then}

module _ {start : Beginning} {machine : Machine} {history : List Fed} {ghost : Ghost}
    (machine_holds : MachineInvariant start machine history ghost) (thread place value : ℕ) where
  pub machine-release : AllFail (tests_of machine RELEASE thread place value) →
      MachineInvariant start (effect machine RELEASE thread place value).machine
      (and_then history (took_step RELEASE thread place value)) ghost
  unfolding effect release_effect end_release_of released_tail
  machine-release fails =
      let asked = release_asked machine thread place value fails in
      let fed = took_step RELEASE thread place value in
      let after = (effect machine RELEASE thread place value).machine in
      let log = log_at machine.logs thread in
      let holds = machine_holds.logs thread asked.in_thread in
      let in_logs : thread < length machine.logs = rw machine_holds.sized.logs asked.in_thread in
      let in_locks : place < length machine.locks = rw machine_holds.sized.locks asked.in_lock in
      let freed : LockState =
      record { holder = None; count = sync_count ((lock_of machine place).count.0 + 1); pruned = (lock_of machine place).pruned } in
      let keeps : Keeps (entries_of start machine ghost) (entries_of start after ghost) (length history) =
      keep_view start.before machine.logs ghost.event ghost.time ghost.made (length history) thread (end_release_of log)
      in_logs refl (omega arith) (omega arith) in
      let heads : (other : ℕ) → (log_at after.logs other).head.0 ≡ (log_at machine.logs other).head.0 =
      by_log (λ other l. l.head.0 ≡ (log_at machine.logs other).head.0) machine.logs thread (end_release_of log)
      in_logs refl (λ other differs. refl) in
      let positive = holds.head_positive in
      let within = holds.head_next in
      let durable = asked.last_durable in
      let step : ReleaseLocks (entries_of start machine ghost) (entries_of start after ghost) (length history) thread
      place (locks_of machine) (locks_of after) =
      record {
        keeps = keeps;
        is_releasing = asked.is_releasing_it;
        last_durable = omega arith;
        releasing_self = ap (λ (l : Log). l.tail.releasing) (log_same machine.logs thread (end_release_of log) in_logs);
        releasing_other = λ other differs.
            ap (λ (l : Log). l.tail.releasing) (log_other machine.logs thread other (end_release_of log) differs);
        holder_self =
            by-lock (λ lock state. lock ≡ place → state.holder ≡ None) machine.locks place freed in_locks
            (λ same. refl) (λ other differs same. absurd (differs same)) place refl;
        holder_other =
            by-lock (λ other state. (other ≡ place → ⊥) → state.holder ≡ (lock_of machine other).holder) machine.locks
            place freed in_locks (λ differs. absurd (differs refl)) (λ other differs _. refl);
        count_self =
            by-lock (λ lock state. lock ≡ place → state.count.0 ≡ suc (lock_of machine place).count.0)
            machine.locks place freed in_locks (λ same. omega arith) (λ other differs same. absurd (differs same))
            place refl;
        count_other =
            by-lock (λ other state. (other ≡ place → ⊥) → state.count.0 ≡ (lock_of machine other).count.0)
            machine.locks place freed in_locks (λ differs. absurd (differs refl)) (λ other differs _. refl);
      } in
      let pruned_same : (lock : ℕ) → (lock_of after lock).pruned.0 ≡ (lock_of machine lock).pruned.0 =
      by-lock (λ other state. state.pruned.0 ≡ (lock_of machine other).pruned.0) machine.locks place freed in_locks
      refl (λ other differs. refl) in
      let last = machine_holds.locks.last_while asked.is_releasing_it in
      let counted = machine_holds.places.next_is thread asked.in_thread in
      let numbered = last.1 in
      let at_last : made_by (entries_of start after ghost) (and_then history fed) thread (suc (length history)) ≡ last.0 =
      last-kept fed keeps machine_holds.places thread ∙ omega arith in
      record {
        sized = effect-sized machine machine_holds.sized RELEASE thread place value fails;
        logs =
            by_log (λ other l. other < thread_count → UndoHolds l (ghost.event other)) machine.logs thread
            (end_release_of log) in_logs (λ _. release-holds log (ghost.event thread) holds)
            (λ other differs. machine_holds.logs other);
        begins = λ other in_range. let same = heads other in let was = machine_holds.begins other in_range in omega arith;
        cache_sized = machine_holds.cache_sized;
        durable_kept = machine_holds.durable_kept;
        locks = locks-release step machine_holds.locks;
        prunes = prunes_keep keeps heads pruned_same (count-grows step machine_holds.locks) machine_holds.prunes;
        heads = λ other in_range. head-kept keeps heads (λ u r. refl) other (machine_holds.heads other in_range);
        cells =
            cells_keep keeps (λ cell. refl) (λ cell. refl)
            (λ cell. unchanged refl (λ other number is_in live gone. let same = heads other in omega arith))
            machine_holds.cells;
        places =
            places-step
            (record {
              grows = keeps.grows;
              thread = λ is_accepted. asked.in_thread;
              next_new = λ other in_range.
                  rw (machine_holds.places.not_yet (length history) (omega arith)) (keeps.next_same other ∙ omega arith);
              new_made = λ is_accepted is_kind. absurd (⊎_elim (λ is_acquire. omega arith) (λ is_logrel. omega arith) is_kind);
              new_log = λ is_accepted is_kind. absurd (omega arith);
              count_grows = count-grows step machine_holds.locks;
              new_release = λ is_accepted is_kind. (
                (lock_of machine place).count.0,
                rw at_last (still-is keeps.grows last.2),
                let more =
                    step.count_self in omega arith,
              );
              new_acquire = λ is_accepted is_kind. absurd (omega arith);
              new_taken = λ {thread = other} {number} {lock} {count} release taken.
                  let was = kept-is keeps release in
                  ⊎_elim
                  (λ already. inl (was, already))
                  (λ waits.
                  by_cases
                  (ℕ_discrete lock place)
                  (λ same.
                  let mine = machine_holds.locks.held_while asked.is_releasing_it in
                  let theirs = rw same at waits.is_held in
                  let same_thread : other ≡ thread = cc in
                  let is_last : suc number ≡ log.tail.next.0 = rw same_thread at waits.is_last in
                  inr (record { is_accepted = refl; is_kind = refl; is_thread = sym same_thread; is_last = at_last ∙ omega arith }))
                  (λ differs.
                  let unchanged = step.count_other lock differs in
                  let equal = waits.is_count in
                  absurd (omega arith)))
                  (machine_holds.locks.state was);
            })
            machine_holds.places;
        times = times_keep fed keeps machine_holds.times;
        counted =
            counted_same heads pruned_same
            (counted_longer fed keeps.grows (λ lock releases. let is_kind = releases.is_kind in absurd (omega arith))
            machine_holds.counted);
      }
