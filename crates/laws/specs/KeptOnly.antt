-- "Every cell, slot and head then holds its kept content, which only FENCE, the evictions and, for heads, PRUNE alter."
-- The kept contents are `image_of`; here it is said which of its words a step may alter, and that it alters no other.
use Rattle.std.specs.Prelude.{ℕ, ◌+◌, ◌*◌, ◌≡◌, Bool, false, ◌&&◌, ◌||◌, List, length, get_or, eqb, ltb, Option, None, Some}
use Rattle.sizes.specs.Sizes.{entry_words}
use Rattle.answer.specs.Answer.{is_accepted}
use Rattle.answer.specs.Lists.{some_below}
use Rattle.cache.specs.Cache.{cell_count, line_of, is_pending}
use Rattle.cache.specs.declared.Cache.{Cache}
use Rattle.ring.specs.Ring.{slot_of}
use Rattle.tail.specs.Tail.{unfenced}
use Rattle.reader.specs.Stretch.{image_words, heads_at, stretch_at}
use Rattle.thread_log.specs.declared.Log.{Log}
use Rattle.kinds.specs.Kinds.{kind_of}
use Rattle.kinds.specs.declared.Kind.{Kind}
use Rattle.kinds.specs.declared.Kind.TheVariants.{Load as LOAD, Log as LOG, Store as STORE, Acquire as ACQUIRE, LogRel as LOGREL}
use Rattle.kinds.specs.declared.Kind.TheVariants.{Release as RELEASE, Flush as FLUSH, FlushLog as FLUSHLOG, Fence as FENCE, Prune as PRUNE}
use Rattle.kinds.specs.declared.Kind.TheVariants.{EvictLog as EVICTLOG, EvictCell as EVICTCELL, EvictWords as EVICTWORDS}
use Rattle.machine.specs.Holds.{log_of}
use Rattle.machine.specs.Image.{image_of}
use Rattle.machine.specs.Runs.{Step, step_with}
use Rattle.machine.specs.State.{Machine}
use Rattle.atomicity.specs.History.{machine_after}

-- EVICTCELL cell: the word is the cell. Cell c is word c of an image.
abbrev pub is_cell_word : ℕ → ℕ → Bool
is_cell_word cell word = eqb word cell

-- EVICTWORDS thread, slot, count: the word is one of the first so many of the slot's, "in the order kind, place, value, rank"
abbrev pub is_first_word : ℕ → ℕ → ℕ → ℕ → Bool
is_first_word thread slot count word = some_below count (λ index. eqb word (stretch_at thread + (slot * entry_words + index)))

-- EVICTLOG thread, slot: the word is one of the slot's, "the words kind, place, value, rank"
abbrev pub is_slot_word : ℕ → ℕ → ℕ → Bool
is_slot_word thread slot word = is_first_word thread slot entry_words word

-- PRUNE, "by moving the head": the word is the thread's head
abbrev pub is_head_word : ℕ → ℕ → Bool
is_head_word thread word = eqb word (heads_at + thread)

-- FENCE, "each data line with this thread's mark has its seen content kept": the word is a cell of such a line
abbrev pub is_pending_word : Cache → ℕ → ℕ → Bool
is_pending_word cache thread word = ltb word cell_count && is_pending cache thread (line_of word)

-- FENCE, "This thread's marked entries are kept and firm": the word is one of a slot whose entry is marked and not yet firm. The LSNs of
-- these entries go from the one after the last durable LSN to the last flushed one.
abbrev pub is_flushed_word : Log → ℕ → ℕ → Bool
is_flushed_word log thread word =
    let tail = log.tail in
    some_below (unfenced tail) (λ index. is_slot_word thread (slot_of (tail.durable.0 + 1 + index)) word)

-- "only FENCE, the evictions and, for heads, PRUNE": the words that an accepted step may alter, by its kind and fields
unfoldable pub altered_by : Machine → Option Kind → ℕ → ℕ → ℕ → ℕ → Bool
altered_by machine None thread place value word = false
altered_by machine (Some LOAD) thread place value word = false
altered_by machine (Some LOG) thread place value word = false
altered_by machine (Some STORE) thread place value word = false
altered_by machine (Some ACQUIRE) thread place value word = false
altered_by machine (Some LOGREL) thread place value word = false
altered_by machine (Some RELEASE) thread place value word = false
altered_by machine (Some FLUSH) thread place value word = false
altered_by machine (Some FLUSHLOG) thread place value word = false
altered_by machine (Some FENCE) thread place value word =
    is_pending_word machine.cache thread word || is_flushed_word (log_of machine thread) thread word
altered_by machine (Some PRUNE) thread place value word = is_head_word thread word
altered_by machine (Some EVICTLOG) thread place value word = is_slot_word thread place word
altered_by machine (Some EVICTCELL) thread place value word = is_cell_word place word
altered_by machine (Some EVICTWORDS) thread place value word = is_first_word thread place value word

-- the words that a step with any four fields may alter: none where it is refused
abbrev pub may_alter : Machine → Step → ℕ → Bool
may_alter machine step word =
    is_accepted (step_with machine step).answer &&
    altered_by machine (kind_of step.kind) step.thread step.place step.value word

-- a step leaves the image its 1,156 words, and each word that it may not alter as it was
pub record LeavesOthers (machine : Machine) (step : Step) : Type 0 where
  pub whole : length (image_of machine) ≡ image_words
  pub stays_whole : length (image_of (step_with machine step).machine) ≡ image_words
  pub others : (word : ℕ) → may_alter machine step word ≡ false
      → get_or (image_of (step_with machine step).machine) word 0 ≡ get_or (image_of machine) word 0

-- the claim: every step, on every machine that a list of steps leads to, leaves each word that it may not alter as it was
abbrev pub KeptOnly : Type 0
KeptOnly = (words : List ℕ) (steps : List Step) (step : Step) → LeavesOthers (machine_after words steps) step
