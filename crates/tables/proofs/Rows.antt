-- A table of rows holds where one computed test over all of them says so.
use mathlib.Core.Path.{◌≡◌, refl, sym, ap₂}
use mathlib.Core.Bool.{Bool, true, false, ◌&&◌, false≢true}
use mathlib.Core.List.{List, [], ◌∷◌, map, flatten}
use lib.Pointwise.{pointwise}
use Rattle.std.specs.Prelude.{nat_eq}
use Rattle.std.specs.Cmp.Lexicographic.{same_text}
use Rattle.answer.specs.Lists.{tab, some_below, count_below, set_from, mix_from}
use Rattle.answer.specs.Refusals.{unless}
use Rattle.cache.specs.Cache.{cache_of, store_of, flush_of, fence_of, evict_cell_of}
use Rattle.tail.specs.Tail.{fresh_tail, flushed_tail, fenced_tail, released_tail}
use Rattle.append.specs.Append.{grown_tail, room_tests}
use Rattle.entry.specs.Words.{words_of}
use Rattle.thread_log.specs.Entries.{fresh_log, is_live_slot, flush_log_of, persist_words, persist_slot, persist_from, fence_log_of}
use Rattle.thread_log.specs.Entries.{evict_slot_tests, evict_words_of, drop_of, append_of}
use Rattle.undo.specs.Entering.{end_release_of}
use Rattle.event.specs.Events.{event_of}
use Rattle.undo.specs.Regions.{logged_among, logged_of, goes_on, oldest_region, is_finished}
use Rattle.reader.specs.Stretch.{stretch_of, holds, present_from, present_of}
use Rattle.clocks.specs.Clocks.{clock_at, join_of, raised_of}
use Rattle.accesses.specs.Accesses.{loaded_of, logged_cell_of}
use Rattle.machine.specs.Effects.{load_effect, first_log_effect, log_effect, store_effect, acquire_effect, log_release_effect, release_effect}
use Rattle.machine.specs.Effects.{flush_effect, flush_log_effect, fence_effect, prune_effect, evict_log_effect, effect}
use Rattle.machine.specs.Effects.{evict_cell_effect, evict_words_effect}
use Rattle.machine.specs.Holds.{fresh_machine, start_of}
use Rattle.machine.specs.Image.{image_of, cut_of}
use Rattle.kinds.specs.Kinds.{kind_of, input_tests}
use Rattle.machine.specs.Refusals.{load_tests, log_tests, store_tests, acquire_tests, log_release_tests, state_tests}
use Rattle.locks.specs.LockSteps.{release_tests}
use Rattle.prune.specs.Pruning.{prune_tests}
use Rattle.machine.specs.Runs.{after, answers, evict_steps}
use Rattle.machine.specs.Steps.{step_of_kind, step_of}
use Rattle.script.specs.Script.{script_of}
use Rattle.batch.specs.Batch.{log_each, log_cells_of}
use Rattle.image.specs.Stored.{stored_logs}
use Rattle.image.specs.Tests.{is_bad_head, is_bad_entry, has_bad_entry, image_tests}
use Rattle.undoing.specs.Undo.{has_later_acquire, may_take_entry, may_take, lowest_from, take_last, take_next, take_many, undo_start, undone}
use Rattle.recovery.specs.Recover.{has_left, recover_tests, recover_of}
use Rattle.orders.specs.Orders.{undone_by}
use Rattle.pair.specs.Pair.{may_take_name}
use Rattle.order.specs.Check.{pairs_of, bad_place, are_not_pairs, check_tests, check_of}
use Rattle.tables.specs.Points.{Row, ◌gives◌, found_of, asked_of}

-- each row gives what is asked. What stands under it is unfolded with it: each definition of the machine and of recovery that rows reach.
unfoldable pub all_given : List Row → Bool
unfolding flatten tab some_below count_below set_from mix_from unless cache_of store_of flush_of fence_of
    evict_cell_of fresh_tail grown_tail room_tests flushed_tail fenced_tail released_tail words_of fresh_log is_live_slot append_of
    flush_log_of end_release_of event_of persist_words persist_slot persist_from fence_log_of evict_slot_tests evict_words_of drop_of
    logged_among logged_of goes_on oldest_region is_finished stretch_of holds present_from present_of clock_at join_of raised_of
    loaded_of logged_cell_of load_effect first_log_effect log_effect store_effect acquire_effect log_release_effect release_effect
    flush_effect flush_log_effect fence_effect prune_effect evict_log_effect evict_cell_effect evict_words_effect
    effect fresh_machine start_of image_of cut_of kind_of input_tests load_tests log_tests store_tests acquire_tests
    log_release_tests release_tests prune_tests state_tests after answers evict_steps step_of_kind step_of script_of log_each
    log_cells_of is_bad_head is_bad_entry has_bad_entry image_tests recover_tests recover_of stored_logs has_later_acquire may_take_entry
    may_take lowest_from take_last take_next take_many undo_start undone has_left undone_by pairs_of may_take_name bad_place are_not_pairs check_tests
    check_of
all_given [] = true
all_given ((found gives asked) ∷ rows) = pointwise nat_eq found asked && all_given rows

both_true : (a b : Bool) → (a && b) ≡ true → (a ≡ true) × (b ≡ true)
both_true true b holds = (refl, holds)
both_true false b holds = absurd (false≢true holds)

pub rows_hold : (rows : List Row) → all_given rows ≡ true → map found_of rows ≡ map asked_of rows
unfolding all_given
rows_hold [] holds = refl
rows_hold ((found gives asked) ∷ rows) holds =
    let parts = both_true (pointwise nat_eq found asked) (all_given rows) holds in
    ap₂ ◌∷◌ (same_text found asked (sym parts.0)) (rows_hold rows parts.1)
