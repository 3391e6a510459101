-- The law on wasted fences: a FENCE that carries nothing has no line and no entry to change, and one that changes nothing had none.
use Prim.Native.Nat.{ℕ, ◌+◌, ◌<◌, ◌≤◌}
use native.Mathlib.Omega.{arith}
use mathlib.Core.Path.{◌≡◌, refl, sym, ap, ◌∙◌, subst}
use mathlib.Core.Bool.{cond, false}
use lib.ListN.{set}
use lib.Seq.{set-get_or, get_or-set_same}
use lib.Dec.{eqb}
use borrow.Author.Tests.{lt-ltb, eq-eqb, eqb-true}
use Rattle.sizes.specs.Sizes.{thread_count}
use Rattle.answer.specs.Answer.{value_of}
use Rattle.answer.specs.Refusals.{unless, first_refusal}
use Rattle.answer.proofs.BelowLaws.{count_below-none, none-count_below}
use Rattle.cache.specs.Cache.{line_count, is_pending, pending_count}
use Rattle.cache.proofs.CacheLaws as CacheLaws
use Rattle.tail.specs.Tail.{unfenced, fenced_tail}
use Rattle.ring.specs.Ring.{lsn}
use Rattle.thread_log.specs.Entries.{persist_from, fence_log_of}
use Rattle.thread_log.specs.declared.Log.{Log}
use Rattle.kinds.specs.Kinds.{input_tests}
use Rattle.kinds.specs.declared.Kind.TheVariants.{Fence as FENCE}
use Rattle.machine.specs.Effects.{effect, fence_effect}
use Rattle.machine.specs.Holds.{no_log, log_of}
use Rattle.machine.specs.State.{Machine}
use Rattle.machine.specs.declared.Stepped.{Stepped}
use Rattle.machine.proofs.PartSteps.{Accepts, fence-step}
use Rattle.machine.proofs.Sizes.{Sized}
use Rattle.atomicity.specs.History.{machine_after}
use Rattle.laws.specs.RefusalLaws.{Decides}
use Rattle.laws.specs.WastedFence.{WastedFence}
use Rattle.atomicity.proofs.RunInvariantHolds.{after_run}

-- a log whose flushed entries are durable is left as it is
log_idle : (log : Log) → log.tail.durable.0 ≤ log.tail.flushed.0 → unfenced log.tail ≡ 0 → fence_log_of log ≡ log
unfolding fence_log_of fenced_tail persist_from
log_idle log ordered none = λ i. record {
  cached = log.cached;
  persisted = ap (persist_from log.cached log.persisted (log.tail.durable.0 + 1)) none i;
  head = log.head;
  tail = record {
    next = log.tail.next;
    durable = ap lsn same i;
    flushed = log.tail.flushed;
    releasing = log.tail.releasing;
  };
}
  where
    same : log.tail.flushed.0 ≡ log.tail.durable.0
    same = omega arith

module _ (machine : Machine) (sized : Sized machine) (cache_sized : CacheLaws.Sized machine.cache) (thread : ℕ)
    (in_range : thread < thread_count) (ordered : (log_of machine thread).tail.durable.0 ≤ (log_of machine thread).tail.flushed.0) where
  -- the FENCE's answer, and the machine after it
  abbrev fenced : Stepped
  fenced = effect machine FENCE thread 0 0

  -- the number that it answers
  abbrev carried : ℕ
  carried = pending_count machine.cache thread + unfenced (log_of machine thread).tail

  -- with no line and no entry to carry, cache and log stay
  nothing-changes : carried ≡ 0 → fenced.machine ≡ machine
  unfolding effect fence_effect
  nothing-changes none = λ i. record {
    cache =
        CacheLaws.fence_of-idle machine.cache cache_sized thread
        (count_below-none line_count (λ line. is_pending machine.cache thread line) (omega arith)) i;
    logs =
        (ap (set machine.logs thread) (log_idle (log_of machine thread) ordered (omega arith)) ∙
        set-get_or machine.logs thread no_log) i;
    clocks = machine.clocks;
    lock_clocks = machine.lock_clocks;
    locks = machine.locks;
    accesses = machine.accesses;
  }

  -- after the FENCE no line is pending, nor any before it where it changed nothing
  no_line : fenced.machine ≡ machine → pending_count machine.cache thread ≡ 0
  unfolding effect fence_effect
  no_line same =
      none-count_below line_count (λ line. is_pending machine.cache thread line)
      (λ line within.
      sym (ap (λ (m : Machine). is_pending m.cache thread line) same) ∙
      CacheLaws.fence_of-pending machine.cache cache_sized thread thread line within ∙
      ap (λ test. cond test false (is_pending machine.cache thread line)) (eq-eqb thread thread refl))

  -- after the FENCE the flushed entries are durable, and so before it where it changed nothing
  no-entry : fenced.machine ≡ machine → unfenced (log_of machine thread).tail ≡ 0
  unfolding effect fence_effect fence_log_of fenced_tail
  no-entry same =
      let put =
      get_or-set_same machine.logs thread (fence_log_of (log_of machine thread)) no_log (omega (arith, sized.logs)) in
      let durable = ap (λ (log : Log). log.tail.durable.0) (sym put ∙ ap (λ (m : Machine). log_of m thread) same) in
      omega (arith, durable)

  decided : Decides (eqb (value_of fenced.answer) 0) (fenced.machine ≡ machine)
  unfolding effect fence_effect
  decided = record {
    only = λ zero. nothing-changes (eqb-true carried 0 zero);
    always = λ same. eq-eqb carried 0 (rw (no_line same, no-entry same));
  }

-- the input of a thread's FENCE is accepted
fence_accepted : (thread : ℕ) → thread < thread_count → Accepts FENCE thread 0 0 0
unfolding input_tests first_refusal unless
fence_accepted thread in_range = rw (lt-ltb thread thread_count in_range)

pub wasted_fence : WastedFence
wasted_fence words steps thread in_range =
    let machine = machine_after words steps in
    let holds = (after_run words steps).machine_holds in
    subst (λ (fenced : Stepped). Decides (eqb (value_of fenced.answer) 0) (fenced.machine ≡ machine))
    (fence-step machine thread 0 (fence_accepted thread in_range))
    (decided machine holds.sized holds.cache_sized thread in_range (holds.logs thread in_range).durable_flushed)
