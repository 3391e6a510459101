-- `step::step` meets its contract: an accepted input is of the kind whose method is called, with 0 in the fields that it does not use.
use Rattle.std.specs.Prelude.{Option, Some}
use Prim.Native.Nat.{ℕ}
use mathlib.Core.Path.{◌≡◌, refl, sym, ap, ◌∙◌}
use Rattle.kinds.specs.Kinds.{kind_of}
use Rattle.kinds.specs.declared.Kind.{Kind}
use Rattle.machine.specs.Steps.{step_of_option, step_of}
use Rattle.machine.specs.State.{Machine}
use Rattle.machine.proofs.Inputs.{input-refused}
use Rattle.step.proofs.step.Goals as goal

-- two numbers of one kind give one step
same : (machine : Machine) (thread place value number other : ℕ) {kind : Kind} → kind_of number ≡ Some kind → kind_of other ≡ Some kind →
    step_of machine other thread place value ≡ step_of machine number thread place value
unfolding step_of
same machine thread place value number other is_number is_other =
    ap (λ (found : Option Kind). step_of_option machine found thread place value) (is_other ∙ sym is_number)

pub returns-in-Err : goal.returns-in-Err
returns-in-Err c = let a = c.args in
    sym (input-refused a.machine a.thread a.place a.value a.kind c.in-Err.ensures)

pub returns-in-Ok-Load : goal.returns-in-Ok-Load
unfolding kind_of
returns-in-Ok-Load c = let a = c.args in
    let known = rw c.in-Ok-Load.field-0-is at c.in-Ok-Load.ensures in
    let value : a.value ≡ 0 = known.1.value_fits in
    c.load.ensures ∙ rw value (same a.machine a.thread a.place 0 a.kind 1 known.0 refl)

pub returns-in-Ok-Log : goal.returns-in-Ok-Log
unfolding kind_of
returns-in-Ok-Log c = let a = c.args in
    let known = rw c.in-Ok-Log.field-0-is at c.in-Ok-Log.ensures in
    let value : a.value ≡ 0 = known.1.value_fits in
    c.log.ensures ∙ rw value (same a.machine a.thread a.place 0 a.kind 2 known.0 refl)

pub returns-in-Ok-Store : goal.returns-in-Ok-Store
unfolding kind_of
returns-in-Ok-Store c = let a = c.args in
    let known = rw c.in-Ok-Store.field-0-is at c.in-Ok-Store.ensures in
    c.store.ensures ∙ same a.machine a.thread a.place a.value a.kind 3 known.0 refl

pub returns-in-Ok-Acquire : goal.returns-in-Ok-Acquire
unfolding kind_of
returns-in-Ok-Acquire c = let a = c.args in
    let known = rw c.in-Ok-Acquire.field-0-is at c.in-Ok-Acquire.ensures in
    let value : a.value ≡ 0 = known.1.value_fits in
    c.acquire.ensures ∙ rw value (same a.machine a.thread a.place 0 a.kind 4 known.0 refl)

pub returns-in-Ok-LogRel : goal.returns-in-Ok-LogRel
unfolding kind_of
returns-in-Ok-LogRel c = let a = c.args in
    let known = rw c.in-Ok-LogRel.field-0-is at c.in-Ok-LogRel.ensures in
    let value : a.value ≡ 0 = known.1.value_fits in
    c.log_release.ensures ∙ rw value (same a.machine a.thread a.place 0 a.kind 5 known.0 refl)

pub returns-in-Ok-Release : goal.returns-in-Ok-Release
unfolding kind_of
returns-in-Ok-Release c = let a = c.args in
    let known = rw c.in-Ok-Release.field-0-is at c.in-Ok-Release.ensures in
    let value : a.value ≡ 0 = known.1.value_fits in
    c.release.ensures ∙ rw value (same a.machine a.thread a.place 0 a.kind 6 known.0 refl)

pub returns-in-Ok-Flush : goal.returns-in-Ok-Flush
unfolding kind_of
returns-in-Ok-Flush c = let a = c.args in
    let known = rw c.in-Ok-Flush.field-0-is at c.in-Ok-Flush.ensures in
    let value : a.value ≡ 0 = known.1.value_fits in
    c.flush.ensures ∙ rw value (same a.machine a.thread a.place 0 a.kind 7 known.0 refl)

pub returns-in-Ok-FlushLog : goal.returns-in-Ok-FlushLog
unfolding kind_of
returns-in-Ok-FlushLog c = let a = c.args in
    let known = rw c.in-Ok-FlushLog.field-0-is at c.in-Ok-FlushLog.ensures in
    let place : a.place ≡ 0 = known.1.place_fits in
    let value : a.value ≡ 0 = known.1.value_fits in
    c.flush_log.ensures ∙ rw (place, value) (same a.machine a.thread 0 0 a.kind 8 known.0 refl)

pub returns-in-Ok-Fence : goal.returns-in-Ok-Fence
unfolding kind_of
returns-in-Ok-Fence c = let a = c.args in
    let known = rw c.in-Ok-Fence.field-0-is at c.in-Ok-Fence.ensures in
    let place : a.place ≡ 0 = known.1.place_fits in
    let value : a.value ≡ 0 = known.1.value_fits in
    c.fence.ensures ∙ rw (place, value) (same a.machine a.thread 0 0 a.kind 9 known.0 refl)

pub returns-in-Ok-Prune : goal.returns-in-Ok-Prune
unfolding kind_of
returns-in-Ok-Prune c = let a = c.args in
    let known = rw c.in-Ok-Prune.field-0-is at c.in-Ok-Prune.ensures in
    let place : a.place ≡ 0 = known.1.place_fits in
    let value : a.value ≡ 0 = known.1.value_fits in
    c.prune.ensures ∙ rw (place, value) (same a.machine a.thread 0 0 a.kind 10 known.0 refl)

pub returns-in-Ok-EvictLog : goal.returns-in-Ok-EvictLog
unfolding kind_of
returns-in-Ok-EvictLog c = let a = c.args in
    let known = rw c.in-Ok-EvictLog.field-0-is at c.in-Ok-EvictLog.ensures in
    let value : a.value ≡ 0 = known.1.value_fits in
    c.evict_log.ensures ∙ rw value (same a.machine a.thread a.place 0 a.kind 12 known.0 refl)

pub returns-in-Ok-EvictCell : goal.returns-in-Ok-EvictCell
unfolding kind_of
returns-in-Ok-EvictCell c = let a = c.args in
    let known = rw c.in-Ok-EvictCell.field-0-is at c.in-Ok-EvictCell.ensures in
    let thread : a.thread ≡ 0 = known.1.thread_fits in
    let value : a.value ≡ 0 = known.1.value_fits in
    c.evict_cell.ensures ∙ rw (thread, value) (same a.machine 0 a.place 0 a.kind 13 known.0 refl)

pub returns-in-Ok-EvictWords : goal.returns-in-Ok-EvictWords
unfolding kind_of
returns-in-Ok-EvictWords c = let a = c.args in
    let known = rw c.in-Ok-EvictWords.field-0-is at c.in-Ok-EvictWords.ensures in
    c.evict_words.ensures ∙ same a.machine a.thread a.place a.value a.kind 14 known.0 refl
