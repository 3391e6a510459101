-- The law on refusals 12 and 13: a lock's holder is the thread of the last accepted ACQUIRE or RELEASE of the lock, if that is an ACQUIRE.
use Rattle.std.specs.Prelude.{None, Option, Some}
use Prim.Native.Nat.{ℕ, ◌-◌, ◌<◌}
use native.Mathlib.Decide.{dec_lt}
use native.Mathlib.Omega.{arith}
use mathlib.Core.Path.{◌≡◌, refl, sym, ap, ◌∙◌}
use mathlib.Core.Bool.{true, false, false≢true, true≢false}
use mathlib.Core.List.{List, []}
use mathlib.Core.Logic.{◌⊎◌, inl, inr, ⊎_elim, by_cases}
use lib.ListN.{length, get_or}
use lib.Seq.{set_out}
use borrow.Author.Tests.{eq-eqb}
use Rattle.answer.proofs.RefusalLaws.{AllFail}
use Rattle.answer.proofs.ListCases.{set_cases}
use Rattle.undo.specs.Entering.{live_event}
use Rattle.undo.specs.Regions.{oldest_region}
use Rattle.event.specs.declared.Event.{Event}
use Rattle.event.specs.declared.Event.TheVariants.{Empty, Store, Acquire, Release}
use Rattle.locks.specs.Locks.{no_lock, is_held, is_held_by, taken_by, freed_of, one_pruned, pruned_locks}
use Rattle.locks.specs.declared.Lock.{Lock}
use Rattle.machine.specs.Effects.{load_effect, first_log_effect, store_effect, acquire_effect, log_release_effect, release_effect, flush_effect}
use Rattle.machine.specs.Effects.{flush_log_effect, fence_effect, prune_effect, evict_log_effect, evict_cell_effect, effect}
use Rattle.machine.specs.Effects.{evict_words_effect}
use Rattle.machine.specs.Holds.{log_of, lock_of}
use Rattle.kinds.specs.declared.Kind.{Kind}
use Rattle.kinds.specs.declared.Kind.TheVariants.{Load as LOAD, Log as LOG, Store as STORE, Acquire as ACQUIRE, LogRel as LOGREL}
use Rattle.kinds.specs.declared.Kind.TheVariants.{Release as RELEASE, Flush as FLUSH, FlushLog as FLUSHLOG, Fence as FENCE, Prune as PRUNE}
use Rattle.kinds.specs.declared.Kind.TheVariants.{EvictLog as EVICTLOG, EvictCell as EVICTCELL, EvictWords as EVICTWORDS}
use Rattle.machine.specs.State.{Machine}
use Rattle.machine.proofs.LogCases.{log_cases}
use Rattle.machine.proofs.AcceptedMeans.{acquire_asked, release_asked}
use Rattle.machine.proofs.StepLaws.{tests_of}
use Rattle.machine.proofs.Beginnings.{fresh_logs, fresh-all, lock-free, on-start}
use Rattle.machine.proofs.Sizes.{Sized, effect-sized, begin_sized}
use Rattle.atomicity.specs.History.{Fed, step_at, start_machine}
use Rattle.laws.specs.RefusalLaws.{OfLock, Holds, HolderLaw}
use Rattle.atomicity.proofs.Locks.{never-both}
use Rattle.atomicity.proofs.Holding.{held_by}
use Rattle.atomicity.proofs.HistoryRuns.{kind_number, took_step, run-keeps}
use Rattle.atomicity.proofs.Ordered.{and_then, accepted-inside}
use Rattle.atomicity.proofs.Places.{length-then, step-before, step-new}

-- the step is an accepted one of this kind, of this lock
record IsOf (fed : Fed) (kind lock : ℕ) : Type 0 where
  is_accepted : fed.accepted ≡ true
  is_kind : fed.kind ≡ kind
  is_lock : fed.place ≡ lock

module _ (history : List Fed) (fed : Fed) where
  -- an accepted step of a lock in the longer history is the new one or stood there before, and the other way
  of-new : {kind lock : ℕ} → IsOf fed kind lock → OfLock (and_then history fed) (length history) kind lock
  of-new is = record {
    is_step = record { is_accepted = rw (step-new history fed) is.is_accepted; is_kind = rw (step-new history fed) is.is_kind };
    is_lock = rw (step-new history fed) is.is_lock;
  }

  of-still : {place kind lock : ℕ} → OfLock history place kind lock → OfLock (and_then history fed) place kind lock
  of-still {place} of =
      let same = step-before history fed (accepted-inside history place of.is_step.is_accepted) in
      record {
        is_step = record { is_accepted = rw same of.is_step.is_accepted; is_kind = rw same of.is_step.is_kind };
        is_lock = rw same of.is_lock;
      }

  of-cases : {place kind lock : ℕ} → OfLock (and_then history fed) place kind lock
      → OfLock history place kind lock ⊎ ((place ≡ length history) × IsOf fed kind lock)
  of-cases {place} of =
      by_cases
      (dec_lt place (length history))
      (λ before.
      let same = step-before history fed before in
      inl (record {
        is_step = record { is_accepted = rw same at of.is_step.is_accepted; is_kind = rw same at of.is_step.is_kind };
        is_lock = rw same at of.is_lock;
      }))
      (λ not_before.
      let inside = accepted-inside (and_then history fed) place of.is_step.is_accepted in
      let here : place ≡ length history = omega (arith, not_before, length-then history fed) in
      let new = step-new history fed in
      inr (
        here,
        record {
          is_accepted = rw new at (rw here at of.is_step.is_accepted);
          is_kind = rw new at (rw here at of.is_step.is_kind);
          is_lock = rw new at (rw here at of.is_lock);
        },
      ))

  -- a step that neither takes nor frees the lock leaves who holds it
  holds-still : {thread lock : ℕ} → (IsOf fed 4 lock → ⊥) → (IsOf fed 6 lock → ⊥) → Holds history thread lock
      → Holds (and_then history fed) thread lock
  holds-still no_acquire no_release holds =
      let inside = accepted-inside history holds.place holds.is_acquire.is_step.is_accepted in
      record {
        place = holds.place;
        is_acquire = of-still holds.is_acquire;
        is_thread = rw (step-before history fed inside) holds.is_thread;
        no_acquire_after = λ later after of. ⊎_elim (λ was. holds.no_acquire_after later after was) (λ new. no_acquire new.1) (of-cases of);
        no_release_after = λ later after of. ⊎_elim (λ was. holds.no_release_after later after was) (λ new. no_release new.1) (of-cases of);
      }

  holds-was : {thread lock : ℕ} → (IsOf fed 4 lock → ⊥) → Holds (and_then history fed) thread lock → Holds history thread lock
  holds-was no_acquire holds =
      ⊎_elim
      (λ was. record {
        place = holds.place;
        is_acquire = was;
        is_thread = rw (step-before history fed (accepted-inside history holds.place was.is_step.is_accepted)) at holds.is_thread;
        no_acquire_after = λ later after of. holds.no_acquire_after later after (of-still of);
        no_release_after = λ later after of. holds.no_release_after later after (of-still of);
      })
      (λ new. absurd (no_acquire new.1))
      (of-cases holds.is_acquire)

  -- the thread of an ACQUIRE holds the lock after it, and no other one does
  holds-new : {lock : ℕ} → IsOf fed 4 lock → Holds (and_then history fed) fed.thread lock
  holds-new is = record {
    place = length history;
    is_acquire = of-new is;
    is_thread = rw (step-new history fed);
    no_acquire_after = λ later after of. past later after of.is_step.is_accepted;
    no_release_after = λ later after of. past later after of.is_step.is_accepted;
  }
    where
      past : (later : ℕ) → length history < later → (step_at (and_then history fed) later).accepted ≡ true → ⊥
      past later after is_accepted =
          let inside = accepted-inside (and_then history fed) later is_accepted in
          omega (arith, length-then history fed)

  holds-only : {thread lock : ℕ} → IsOf fed 4 lock → Holds (and_then history fed) thread lock → thread ≡ fed.thread
  holds-only is holds =
      ⊎_elim
      (λ was.
      let inside = accepted-inside history holds.place was.is_step.is_accepted in
      absurd (holds.no_acquire_after (length history) inside (of-new is)))
      (λ new. sym holds.is_thread ∙ rw (new.0, step-new history fed))
      (of-cases holds.is_acquire)

  -- after a RELEASE of the lock no thread holds it
  holds-none : {thread lock : ℕ} → IsOf fed 6 lock → Holds (and_then history fed) thread lock → ⊥
  holds-none is holds =
      ⊎_elim
      (λ was. holds.no_release_after (length history) (accepted-inside history holds.place was.is_step.is_accepted) (of-new is))
      (λ new. let one = new.1.is_kind in let other = is.is_kind in omega arith)
      (of-cases holds.is_acquire)

-- the holder is who holds the lock by the history
record HolderIs (holder : Option ℕ) (history : List Fed) (lock : ℕ) : Type 0 where
  holds : {thread : ℕ} → holder ≡ Some thread → Holds history thread lock
  is_holder : {thread : ℕ} → Holds history thread lock → holder ≡ Some thread

holder_still : {before after : Option ℕ} {history : List Fed} {lock : ℕ} (fed : Fed) → (IsOf fed 4 lock → ⊥) → (IsOf fed 6 lock → ⊥)
    → after ≡ before → HolderIs before history lock → HolderIs after (and_then history fed) lock
holder_still {history = history} fed no_acquire no_release same is = record {
  holds = λ is_held. holds-still history fed no_acquire no_release (is.holds (sym same ∙ is_held));
  is_holder = λ holds. same ∙ is.is_holder (holds-was history fed no_acquire holds);
}

-- every lock's holder is who holds the lock by the history
record HoldersHold (machine : Machine) (history : List Fed) : Type 0 where
  sized : Sized machine
  holders : (lock : ℕ) → HolderIs (lock_of machine lock).holder history lock

-- counting a pruned region leaves a lock's holder
pruned_holder : (locks : List Lock) (event : Event) (lock : ℕ)
    → (get_or (pruned_locks locks event) lock no_lock).holder ≡ (get_or locks lock no_lock).holder
pruned_holder locks Empty lock = refl
pruned_holder locks (Store cell old) lock = refl
pruned_holder locks (Acquire other count) lock = refl
pruned_holder locks (Release other count) lock =
    by_cases
    (dec_lt other (length locks))
    (λ inside.
    set_cases
    locks
    other
    (one_pruned (get_or locks other no_lock))
    no_lock
    inside
    (λ found state. state.holder ≡ (get_or locks found no_lock).holder)
    refl
    (λ found differs. refl)
    lock)
    (λ outside. rw (set_out locks other (one_pruned (get_or locks other no_lock)) (omega arith)))

module _ (machine : Machine) (history : List Fed) (hold : HoldersHold machine history) where
  refused-holders : (fed : Fed) → fed.accepted ≡ false → HoldersHold machine (and_then history fed)
  refused-holders fed is_refused = record {
    sized = hold.sized;
    holders = λ lock. holder_still fed (λ is. never is) (λ is. never is) refl (hold.holders lock);
  }
    where
      never : {kind lock : ℕ} → IsOf fed kind lock → ⊥
      never is = true≢false (sym is.is_accepted ∙ is_refused)

  module _ (thread place value : ℕ) where
    -- what each kind of step keeps
    abbrev Kept : Kind → Type 0
    Kept kind = AllFail (tests_of machine kind thread place value)
        → HoldersHold (effect machine kind thread place value).machine (and_then history (took_step kind thread place value))

    -- a step of a kind that is neither ACQUIRE nor RELEASE leaves each lock's holder who holds it by the history
    aside : (kind : Kind) → (kind_number kind ≡ 4 → ⊥) → (kind_number kind ≡ 6 → ⊥)
        → ((lock : ℕ) → (lock_of (effect machine kind thread place value).machine lock).holder ≡ (lock_of machine lock).holder) → Kept kind
    aside kind no_acquire no_release same fails = record {
      sized = effect-sized machine hold.sized kind thread place value fails;
      holders = λ lock.
          holder_still
          (took_step kind thread place value)
          (λ is. no_acquire is.is_kind)
          (λ is. no_release is.is_kind)
          (same lock)
          (hold.holders lock);
    }

    acquire-holders : Kept ACQUIRE
    unfolding effect acquire_effect
    acquire-holders fails =
        let fed = took_step ACQUIRE thread place value in
        let is : IsOf fed 4 place = record { is_accepted = refl; is_kind = refl; is_lock = refl } in
        record {
          sized = effect-sized machine hold.sized ACQUIRE thread place value fails;
          holders =
              set_cases
              machine.locks
              place
              (taken_by (lock_of machine place) thread)
              no_lock
              (rw hold.sized.locks (acquire_asked machine thread place value fails).in_lock)
              (λ lock state. HolderIs state.holder (and_then history fed) lock)
              (record {
                holds = λ {thread = other} is_held. let same : thread ≡ other = cc in rw (← same) (holds-new history fed is);
                is_holder = λ holds. ap Some (sym (holds-only history fed is holds));
              })
              (λ other differs.
              holder_still fed (λ is. differs (sym is.is_lock)) (λ is. differs (sym is.is_lock)) refl (hold.holders other));
        }

    release-holders : Kept RELEASE
    unfolding effect release_effect
    release-holders fails =
        let fed = took_step RELEASE thread place value in
        let is : IsOf fed 6 place = record { is_accepted = refl; is_kind = refl; is_lock = refl } in
        record {
          sized = effect-sized machine hold.sized RELEASE thread place value fails;
          holders =
              set_cases
              machine.locks
              place
              (freed_of (lock_of machine place))
              no_lock
              (rw hold.sized.locks (release_asked machine thread place value fails).in_lock)
              (λ lock state. HolderIs state.holder (and_then history fed) lock)
              (record {
                holds = λ is_held. never-both refl is_held;
                is_holder = λ holds. absurd (holds-none history fed is holds);
              })
              (λ other differs.
              holder_still fed (λ is. differs (sym is.is_lock)) (λ is. differs (sym is.is_lock)) refl (hold.holders other));
        }

    prune-holders : Kept PRUNE
    unfolding effect prune_effect
    prune-holders =
        let log = log_of machine thread in
        aside PRUNE (λ is. omega arith) (λ is. omega arith) (pruned_holder machine.locks (live_event log (oldest_region log - 1)))

    effect-holders : (kind : Kind) → Kept kind
    unfolding effect load_effect first_log_effect store_effect log_release_effect flush_effect flush_log_effect fence_effect
        evict_log_effect evict_cell_effect evict_words_effect
    effect-holders LOAD = aside LOAD (λ is. omega arith) (λ is. omega arith) (λ lock. refl)
    effect-holders LOG =
        aside LOG (λ is. omega arith) (λ is. omega arith)
        (log_cases (λ stepped. (lock : ℕ) → (lock_of stepped.machine lock).holder ≡ (lock_of machine lock).holder) machine thread place
        (λ is_nowhere lock. refl) (λ number is_at lock. refl))
    effect-holders STORE = aside STORE (λ is. omega arith) (λ is. omega arith) (λ lock. refl)
    effect-holders ACQUIRE = acquire-holders
    effect-holders LOGREL = aside LOGREL (λ is. omega arith) (λ is. omega arith) (λ lock. refl)
    effect-holders RELEASE = release-holders
    effect-holders FLUSH = aside FLUSH (λ is. omega arith) (λ is. omega arith) (λ lock. refl)
    effect-holders FLUSHLOG = aside FLUSHLOG (λ is. omega arith) (λ is. omega arith) (λ lock. refl)
    effect-holders FENCE = aside FENCE (λ is. omega arith) (λ is. omega arith) (λ lock. refl)
    effect-holders PRUNE = prune-holders
    effect-holders EVICTLOG = aside EVICTLOG (λ is. omega arith) (λ is. omega arith) (λ lock. refl)
    effect-holders EVICTCELL = aside EVICTCELL (λ is. omega arith) (λ is. omega arith) (λ lock. refl)
    effect-holders EVICTWORDS = aside EVICTWORDS (λ is. omega arith) (λ is. omega arith) (λ lock. refl)

-- at the start no lock is held, and no step was taken
start_holders : (words : List ℕ) → HoldersHold (start_machine words) []
start_holders = on-start (λ machine. HoldersHold machine []) (λ cells is_length. record {
  sized = begin_sized cells fresh_logs fresh-all;
  holders = λ lock. record {
    holds = λ is_held. never-both (ap (λ (state : Lock). state.holder) (lock-free fresh_logs fresh-all cells lock)) is_held;
    is_holder = λ holds. absurd (false≢true holds.is_acquire.is_step.is_accepted);
  };
})

-- what the tests on a holder ask
anyone : (holder : Option ℕ) → is_held holder ≡ true → (thread : ℕ) × (holder ≡ Some thread)
anyone None is_held = absurd (false≢true is_held)
anyone (Some thread) is_held = (thread, refl)

pub holder_law : HolderLaw
holder_law words steps lock =
    let hold =
    run-keeps
    HoldersHold
    refused-holders
    (λ machine history hold kind thread place value. effect-holders machine history hold thread place value kind)
    (start_machine words)
    []
    (start_holders words)
    steps in
    let is = hold.holders lock in (
      record {
        only = λ is_held. let found = anyone _ is_held in (found.0, is.holds found.1);
        always = λ found. ap is_held (is.is_holder found.1);
      },
      λ thread. record {
        only = λ is_held. is.holds (held_by _ thread is_held);
        always = λ holds. ap (λ (holder : Option ℕ). is_held_by holder thread) (is.is_holder holds) ∙ eq-eqb thread thread refl;
      },
    )
