-- `prune::prune` meets its contract.
use Prim.Native.Nat.{ℕ, ◌+◌, ◌-◌}
use mathlib.Core.Path.{◌≡◌, sym, ap, ◌∙◌}
use mathlib.Core.Bool.{true}
use mathlib.Core.List.{List}
use native.Mathlib.Omega.{arith}
use borrow.Author.Tests.{not-false}
use Rattle.std.specs.Prelude.{Ok}
use Rattle.std.proofs.lemmas.Result.{err_from_is_err_and}
use Rattle.answer.proofs.RefusalLaws.{none-holds}
use Rattle.thread_log.specs.Entries.{drop_to_of, drop_of}
use Rattle.thread_log.specs.declared.Log.{Log}
use Rattle.undo.specs.Entering.{live_event}
use Rattle.undo.specs.Regions.{oldest_region, oldest_of, is_finished}
use Rattle.undo.specs.declared.Region.{Region}
use Rattle.region.proofs.OldestLaws.{region-live, finished_some, prune_region}
use Rattle.locks.specs.Locks.{counted_locks}
use Rattle.locks.specs.declared.Lock.{Lock}
use Rattle.locks.proofs.AskedLaws.{asked-refused, asked-accepted}
use Rattle.prune.specs.Pruning.{Pruned, prune_tests, prune_on}
use Rattle.prune.proofs.RegionParts.{sized, live}
use Rattle.prune.proofs.prune.Goals as goal
use Rattle.prune.proofs.prune.Goals.{In_ok-prune_answer}

-- none of the tests held
finished : (c : In_ok-prune_answer) → is_finished c.args.log.now ≡ true
unfolding prune_tests
finished c =
    let a = c.args in
    let held = none-holds (prune_tests a.log.now a.cache.now a.locks.now) (sym c.prune_answer.ensures ∙ c.in_ok-prune_answer.was) in
    not-false _ held.1.0

-- what the step leaves, with the number that it answers
abbrev leaves : Log → List Lock → ℕ → Pruned
leaves log locks size = record {
  answer = Ok size;
  log = drop_of log (oldest_region log);
  locks = counted_locks locks (live_event log (oldest_region log - 1));
}

-- the log after the step
dropped : (log : Log) (region : Region) → is_finished log ≡ true → region ≡ oldest_of log
    → drop_to_of log (log.head.0 + region.size) ≡ drop_of log (oldest_region log)
dropped log region done is =
    let live = region-live log in
    let some = finished_some log done in
    ap (λ (size : ℕ). drop_to_of log (log.head.0 + size)) (sized log region is) ∙ prune_region log (omega arith)

pub returns-in_err-prune_answer : goal.returns-in_err-prune_answer
unfolding prune_on
returns-in_err-prune_answer c = let a = c.args in
    let p = err_from_is_err_and c.from_residual.result c.from_residual.ensures.1 in
    rw (p.1, p.2)
    (asked-refused
    (λ answer. record { answer = answer; log = a.log.now; locks = a.locks.now })
    _
    (prune_tests a.log.now a.cache.now a.locks.now)
    c.prune_answer.ensures
    c.in_err-prune_answer.was)

pub lsn_after-requires : goal.lsn_after-requires
lsn_after-requires c = live c.args.log.now c.oldest-region.result c.oldest-region.ensures

pub returns : goal.returns
unfolding prune_on
returns c =
    let a = c.args in
    let at = goal.at.returns c in
    rw (
      c.count_pruned.ensures,
      c.drop_to.ensures,
      c.lsn_after.ensures,
      dropped a.log.now c.oldest-region.result (finished at.In_ok-prune_answer) c.oldest-region.ensures,
    )
    (rw c.oldest-region.ensures
    (asked-accepted
    (λ answer. record { answer = answer; log = a.log.now; locks = a.locks.now })
    _
    (prune_tests a.log.now a.cache.now a.locks.now)
    c.prune_answer.ensures
    c.in_ok-prune_answer.was))
