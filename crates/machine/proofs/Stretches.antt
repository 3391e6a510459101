-- Each log of a machine that the start call and steps lead to has all of its persisted slots.
use Prim.Native.Nat.{ℕ, ◌<◌}
use mathlib.Core.Path.{◌≡◌, refl, sym, ap, ◌∙◌, subst}
use mathlib.Core.List.{List, map}
use lib.ListN.{length, get_or, replicate, get_or-replicate, length-map, get_or-map}
use lib.Seq.{map-set_same}
use Rattle.sizes.specs.Sizes.{thread_count, entry_words}
use Rattle.thread_log.specs.Entries.{fresh_log, flush_log_of, fence_log_of, evict_words_of, drop_of, append_of}
use Rattle.undo.specs.Entering.{end_release_of}
use Rattle.undo.specs.Regions.{oldest_region}
use Rattle.ring.specs.Ring.{slot_count}
use Rattle.thread_log.specs.declared.Log.{Log}
use Rattle.thread_log.proofs.SlotLaws.{length_persist_words, length_persist_from}
use Rattle.machine.specs.Effects.{load_effect, first_log_effect, store_effect, acquire_effect, log_release_effect, release_effect}
use Rattle.machine.specs.Effects.{flush_effect, flush_log_effect, fence_effect, prune_effect, evict_log_effect, effect}
use Rattle.machine.specs.Effects.{evict_cell_effect, evict_words_effect}
use Rattle.kinds.specs.declared.Kind.{Kind}
use Rattle.kinds.specs.declared.Kind.TheVariants.{Load as LOAD, Log as LOG, Store as STORE, Acquire as ACQUIRE, LogRel as LOGREL}
use Rattle.kinds.specs.declared.Kind.TheVariants.{Release as RELEASE, Flush as FLUSH, FlushLog as FLUSHLOG, Fence as FENCE}
use Rattle.kinds.specs.declared.Kind.TheVariants.{Prune as PRUNE, EvictLog as EVICTLOG, EvictCell as EVICTCELL, EvictWords as EVICTWORDS}
use Rattle.machine.specs.Holds.{no_log, log_of, with_log, start_of}
use Rattle.machine.specs.Runs.{Reached}
use Rattle.machine.specs.State.{Machine}
use Rattle.machine.proofs.Beginnings.{on-start}
use Rattle.machine.proofs.LogCases.{log_cases}
use Rattle.machine.proofs.StepLaws.{after-keeps}

-- how many persisted slots each log has
slot_counts : List Log → List ℕ
slot_counts logs = map (λ log. length log.persisted) logs

-- each log has 64 persisted slots
pub record Stretched (machine : Machine) : Type 0 where
  whole : slot_counts machine.logs ≡ replicate thread_count slot_count

-- a log that is put in place of one with as many persisted slots leaves the logs' counts of slots as they were
module _ (machine : Machine) (thread : ℕ) (log : Log) where
  put_same : length log.persisted ≡ length (log_of machine thread).persisted
      → slot_counts (with_log machine thread log).logs ≡ slot_counts machine.logs
  unfolding slot_counts
  put_same same = map-set_same (λ other. length other.persisted) machine.logs thread log no_log same

effect-same : (machine : Machine) (kind : Kind) (thread place value : ℕ)
    → slot_counts (effect machine kind thread place value).machine.logs ≡ slot_counts machine.logs
unfolding effect load_effect first_log_effect store_effect acquire_effect log_release_effect release_effect flush_effect
    flush_log_effect fence_effect prune_effect evict_log_effect evict_cell_effect evict_words_effect append_of flush_log_of
    end_release_of fence_log_of evict_words_of drop_of
effect-same machine LOAD thread place value = refl
effect-same machine LOG thread place value =
    log_cases
    (λ stepped. slot_counts stepped.machine.logs ≡ slot_counts machine.logs)
    machine
    thread
    place
    (λ is_nowhere. put_same machine thread _ refl)
    (λ number is_at. refl)
effect-same machine STORE thread place value = refl
effect-same machine ACQUIRE thread place value = put_same machine thread _ refl
effect-same machine LOGREL thread place value = put_same machine thread _ refl
effect-same machine RELEASE thread place value = put_same machine thread _ refl
effect-same machine FLUSH thread place value = refl
effect-same machine FLUSHLOG thread place value = put_same machine thread _ refl
effect-same machine FENCE thread place value = put_same machine thread (fence_log_of (log_of machine thread)) (length_persist_from _ _ _ _)
effect-same machine PRUNE thread place value =
    put_same machine thread (drop_of (log_of machine thread) (oldest_region (log_of machine thread))) refl
effect-same machine EVICTLOG thread place value =
    put_same machine thread (evict_words_of (log_of machine thread) place entry_words) (length_persist_words _ _ _ _)
effect-same machine EVICTCELL thread place value = refl
effect-same machine EVICTWORDS thread place value =
    put_same machine thread (evict_words_of (log_of machine thread) place value) (length_persist_words _ _ _ _)

start_stretched : (words : List ℕ) → Stretched (start_of words).machine
unfolding fresh_log slot_counts
start_stretched words = on-start Stretched (λ cells is_length. record { whole = refl }) words

-- on every machine that the start call and steps lead to each log has 64 persisted slots
pub reached_stretched : (machine : Machine) → Reached machine → Stretched machine
reached_stretched machine reached =
    subst (λ (m : Machine). Stretched m) (sym reached.leads)
    (after-keeps Stretched
    (λ machine stretched kind thread place value fails. record { whole = effect-same machine kind thread place value ∙ stretched.whole })
    (start_of reached.words).machine
    (start_stretched reached.words)
    reached.steps)

pub all-logs : (machine : Machine) → Stretched machine → length machine.logs ≡ thread_count
unfolding slot_counts
all-logs machine stretched = sym (length-map machine.logs (λ log. length log.persisted)) ∙ ap length stretched.whole

-- a thread's log has all of its slots
pub all_slots : (machine : Machine) → Stretched machine → (thread : ℕ) → thread < thread_count
    → length (log_of machine thread).persisted ≡ slot_count
unfolding slot_counts
all_slots machine stretched thread below =
    sym (get_or-map (λ log. length log.persisted) machine.logs thread no_log) ∙
    ap (λ (lengths : List ℕ). get_or lengths thread 0) stretched.whole ∙
    get_or-replicate thread_count thread slot_count 0 below
