-- The regions of one thread's log. "A region is a run of one thread's entries: it begins at the start, with an ACQUIRE, or after a
-- RELEASE, and ends before the next ACQUIRE or with a RELEASE." The head always stands where a region begins.
use Rattle.std.specs.Prelude.{None, Option, Some}
use Rattle.std.specs.Prelude.{ℕ, zero, suc, ◌+◌, ◌-◌, Bool, true, false, cond, not, ◌&&◌, List, [], ◌∷◌, eqb, ltb}
use Rattle.answer.specs.Refusals.{Test, ◌⇒◌}
use Rattle.answer.specs.declared.Refusal.TheVariants.{Releasing, NotLogged, EntryNotDurable}
use Rattle.ring.specs.Ring.{lsn}
use Rattle.ring.specs.declared.Lsn.{Lsn}
use Rattle.tail.specs.Tail.{is_releasing}
use Rattle.thread_log.specs.Entries.{live_count}
use Rattle.thread_log.specs.declared.Log.{Log}
use Rattle.undo.specs.Entering.{live_event}
use Rattle.event.specs.declared.Event.{Event}
use Rattle.event.specs.declared.Event.TheVariants.{Empty, Store, Acquire, Release}
use Rattle.undo.specs.declared.Region.{Region}

abbrev pub is_acquire : Event → Bool
is_acquire Empty = false
is_acquire (Store cell old) = false
is_acquire (Acquire lock count) = true
is_acquire (Release lock count) = false

abbrev pub is_release : Event → Bool
is_release Empty = false
is_release (Store cell old) = false
is_release (Acquire lock count) = false
is_release (Release lock count) = true

-- where an entry of a region and the entries older than it lead the search for a cell's entry: a STORE of the cell is found, another
-- STORE passes the search on, and at an ACQUIRE or a RELEASE the region has no older entry of a cell
abbrev pub searched : Event → ℕ → Option Lsn → Option Lsn → Option Lsn
searched Empty cell here older = None
searched (Store logged old) cell here older = cond (eqb logged cell) here older
searched (Acquire lock count) cell here older = None
searched (Release lock count) cell here older = None

-- the cell's entry in the run that the first so many live entries end in
unfoldable pub logged_among : Log → ℕ → ℕ → Option Lsn
logged_among log cell zero = None
logged_among log cell (suc count) =
    searched (live_event log count) cell (Some (lsn (log.head.0 + count))) (logged_among log cell count)

-- the cell's entry in the current region: "the thread's run that has not ended; after a RELEASE entry there is none until the next entry"
unfoldable pub logged_of : Log → ℕ → Option Lsn
logged_of log cell = logged_among log cell (live_count log)

-- how many of the next so many live entries, from this one on, go on the region that stands before them
unfoldable pub goes_on : Log → ℕ → ℕ → ℕ
goes_on log index zero = 0
goes_on log index (suc count) =
    cond (is_acquire (live_event log index)) 0
    (cond (is_release (live_event log index)) 1 (suc (goes_on log (suc index) count)))

-- how many entries the oldest region has that is not pruned: 0 where no entry is live
unfoldable pub oldest_region : Log → ℕ
oldest_region log =
    cond (eqb (live_count log) 0) 0
    (cond (is_release (live_event log 0)) 1 (suc (goes_on log 1 (live_count log - 1))))

-- the oldest region "is finished when the RELEASE step was taken or the next ACQUIRE exists". Where an entry stands after the region, it
-- is the next ACQUIRE or was made after the RELEASE step; else the region ends in a RELEASE on which the thread is no more closing.
unfoldable pub is_finished : Log → Bool
is_finished log =
    cond (ltb (oldest_region log) (live_count log)) true
    (cond (eqb (oldest_region log) 0) false
    (is_release (live_event log (oldest_region log - 1)) && not (is_releasing log.tail.releasing)))

-- the oldest region that is not pruned: its size, its first and last entry, and whether it is finished
abbrev pub oldest_of : Log → Region
oldest_of log = record {
  size = oldest_region log;
  first = live_event log 0;
  last = live_event log (oldest_region log - 1);
  finished = is_finished log;
}

-- 7: "the thread is closing"
abbrev pub is_closing : Log → Bool
is_closing log = is_releasing log.tail.releasing

abbrev pub is_found : Option Lsn → Bool
is_found None = false
is_found (Some number) = true

-- 10 where not, and what a LOG of the cell asks after 7: "the cell has .. an entry in this thread's current region"
abbrev pub is_logged : Log → ℕ → Bool
is_logged log cell = is_found (logged_of log cell)

-- 11: "some live entry up to" the one of this LSN "isn't firm". The firm entries are those up to the last firm one.
abbrev pub is_undurable_up_to : Log → ℕ → Bool
is_undurable_up_to log number = ltb log.tail.durable.0 number

-- 11 for a STORE: up to the cell's entry
abbrev pub is_undurable_found : Log → Option Lsn → Bool
is_undurable_found log None = false
is_undurable_found log (Some number) = is_undurable_up_to log number.0

-- STORE 7, 10, 11, asked of the thread's log
abbrev pub store_tests_on : Log → ℕ → List Test
store_tests_on log cell =
    (is_closing log ⇒ Releasing) ∷
    (not (is_logged log cell) ⇒ NotLogged) ∷
    (is_undurable_found log (logged_of log cell) ⇒ EntryNotDurable) ∷ []
