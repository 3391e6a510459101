-- Document 01's numbers, bounds and orders of tests, with what document 02 says of LOG, FENCE, the next slot, the evictions, many cells
-- logged in one call and claimed undo orders, as a second table beside that of the P points: each row stands under the words that it is
-- read from. Where steps get to an edge only after very many, or never, a row begins at a machine that is written down; images that no
-- machine makes are written down too.
use Rattle.std.specs.Prelude.{ℕ, ◌+◌, ◌-◌, ◌≡◌, cond, get_or, set, take, drop, replicate, Err, None, Some}
use mathlib.Core.List.{List, [], ◌∷◌, ◌++◌, map, flatten}
use Rattle.answer.specs.Answer.{number_of, value_of}
use Rattle.answer.specs.Lists.{tab}
use Rattle.answer.specs.declared.Refusal.{Refusal}
use Rattle.answer.specs.declared.Refusal.TheVariants.{NoSuchKind, NoSuchThread, NoSuchPlace, UnusedField, NoSuchWordCount}
use Rattle.answer.specs.declared.Refusal.TheVariants.{LogFull, LsnsUsedUp, Releasing, Race, NotLogged, EntryNotDurable}
use Rattle.answer.specs.declared.Refusal.TheVariants.{LockHeld, LockNotHeld, NotReleasing}
use Rattle.answer.specs.declared.Refusal.TheVariants.{NothingToPrune, EarlierReleaseNotPruned, CellNotDurable, NoLiveEntry, Unreadable}
use Rattle.answer.specs.declared.Refusal.TheVariants.{WrongLength, BadHead, BadEntry, Cyclic, TooManyCells}
use Rattle.answer.specs.declared.Refusal.TheVariants.{NotPairs, NotAnOrder}
use Rattle.ring.specs.Ring.{lsn, next_slot_of}
use Rattle.entry.specs.Words.{zeros, words_of}
use Rattle.reader.specs.Stretch.{stretch_of}
use Rattle.entry.specs.declared.Entry.{Entry}
use Rattle.accesses.specs.Accesses.{logged_cell_of}
use Rattle.machine.specs.Holds.{start_of, log_of, with_log, with_accesses}
use Rattle.machine.specs.Image.{image_of, cut_of}
use Rattle.machine.specs.Runs.{Step, step_with, after, answers}
use Rattle.machine.specs.State.{Machine}
use Rattle.script.specs.Script.{script_of}
use Rattle.batch.specs.Batch.{log_cells_of}
use Rattle.recovery.specs.Recover.{recover_of}
use Rattle.orders.specs.Orders.{Name, name, undone_in_order}
use Rattle.order.specs.Check.{pairs_of, check_of}
use Rattle.atomicity.specs.History.{start_machine, machine_after}
use Rattle.tables.specs.Points.{step, LOAD, LOG, STORE, ACQUIRE, LOGREL, RELEASE, FLUSH, FLUSHLOG, FENCE, PRUNE, EVICT, EVICTLOG}
use Rattle.tables.specs.Points.{EVICTCELL, EVICTWORDS, numbered, lent, leaves, answered, outcome, recovered, with_entry, makes}
use Rattle.tables.specs.Points.{tangled, Row, ◌gives◌, found_of, asked_of}

-- the machine of a start whose cell c holds c + 100, and the one after steps from there
abbrev pub start : Machine
start = start_machine numbered

abbrev pub ran : List Step → Machine
ran steps = machine_after numbered steps

-- the numbers of the answers of steps, each asked of this same machine
unfoldable pub asks : Machine → List Step → List ℕ
asks machine steps = map (λ next. number_of (step_with machine next).answer) steps

-- the numbers of the answers of steps taken one after the other, and the numbers given beside the answers
unfoldable pub takes : Machine → List Step → List ℕ
takes machine steps = map number_of (answers machine steps)

unfoldable pub given : Machine → List Step → List ℕ
given machine steps = map value_of (answers machine steps)

-- a machine whose thread has given all ranks before this one, with none of these entries live, and these slots kept
unfoldable pub from_slots : List Entry → ℕ → ℕ → Machine
from_slots slots thread rank =
    with_log start thread (record {
      cached = replicate 64 zeros;
      persisted = slots;
      head = lsn rank;
      tail = record { next = lsn rank; durable = lsn (rank - 1); flushed = lsn (rank - 1); releasing = None };
    })

-- the same with untouched slots: nothing reads what else they hold
unfoldable pub from_rank : ℕ → ℕ → Machine
from_rank thread rank = from_slots (replicate 64 zeros) thread rank

-- "the words kind, place, value, rank"
abbrev pub entry : ℕ → ℕ → ℕ → ℕ → List ℕ
entry kind place value rank = kind ∷ place ∷ value ∷ rank ∷ []

-- so many words of the image of a cut, from this one on
unfoldable pub words : ℕ → ℕ → Machine → List ℕ
words place count machine = take count (drop place (image_of machine))

unfoldable pub zero_cells : List ℕ
zero_cells = replicate 128 0

-- ---- refused because of the input

-- a step with thread 3 and this last place; the same with thread 4, with the next place, with a value; with all three; with the last two
unfoldable pub around : ℕ → ℕ → List Step
around kind last =
    step kind 3 last 0 ∷
    step kind 4 last 0 ∷
    step kind 3 (last + 1) 0 ∷
    step kind 3 last 1 ∷ step kind 4 (last + 1) 1 ∷ step kind 3 (last + 1) 1 ∷ []

-- thread 3 logs cell 127 under lock 7; then it is closing; then it has released
unfoldable pub logs127 : List Step
logs127 = ACQUIRE 3 7 ∷ LOG 3 127 ∷ FLUSHLOG 3 ∷ FENCE 3 ∷ []

unfoldable pub closes7 : List Step
closes7 = logs127 ++ (LOGREL 3 7 ∷ FLUSHLOG 3 ∷ FENCE 3 ∷ [])

unfoldable pub released7 : List Step
released7 = closes7 ++ (RELEASE 3 7 ∷ [])

-- the refusals because of the input: "First match in this order", and before those because of the state
unfoldable pub input_rows : List Row
input_rows =
    -- "1: kind not 1 to 12", document 02: "Refusal 1 now begins at 15", and "now covers 11 too", whatever the other fields
    (asks start (step 0 0 0 0 ∷ step 15 0 0 0 ∷ step 0 4 128 1 ∷ step 15 4 128 1 ∷ []) gives 1 ∷ 1 ∷ 1 ∷ 1 ∷ []) ∷
    (asks start (step 11 0 0 0 ∷ around 11 15) gives replicate 7 1) ∷
    -- "2: thread over 3. 3: place over 127 (LOAD, LOG, STORE), 7 (locks), 15 (lines) or 63 (EVICTLOG). 4: an unused field not 0."
    -- LOAD and LOG, and where 8 would follow
    (asks start (around 1 127) gives 0 ∷ 2 ∷ 3 ∷ 4 ∷ 2 ∷ 3 ∷ []) ∷
    (asks start (around 2 127) gives 0 ∷ 2 ∷ 3 ∷ 4 ∷ 2 ∷ 3 ∷ []) ∷
    (asks (ran (LOG 0 127 ∷ [])) (around 1 127) gives 8 ∷ 2 ∷ 3 ∷ 4 ∷ 2 ∷ 3 ∷ []) ∷
    (asks (ran (LOG 0 127 ∷ [])) (around 2 127) gives 8 ∷ 2 ∷ 3 ∷ 4 ∷ 2 ∷ 3 ∷ []) ∷
    -- STORE, which uses its value, and where 10 would follow
    (asks (ran logs127) (around 3 127) gives 0 ∷ 2 ∷ 3 ∷ 0 ∷ 2 ∷ 3 ∷ []) ∷
    (asks start (around 3 127) gives 10 ∷ 2 ∷ 3 ∷ 10 ∷ 2 ∷ 3 ∷ []) ∷
    -- ACQUIRE, LOGREL and RELEASE, and where 12, 13 and 14 would follow
    (asks start (around 4 7) gives 0 ∷ 2 ∷ 3 ∷ 4 ∷ 2 ∷ 3 ∷ []) ∷
    (asks (ran logs127) (around 5 7) gives 0 ∷ 2 ∷ 3 ∷ 4 ∷ 2 ∷ 3 ∷ []) ∷
    (asks (ran closes7) (around 6 7) gives 0 ∷ 2 ∷ 3 ∷ 4 ∷ 2 ∷ 3 ∷ []) ∷
    (asks (ran (ACQUIRE 0 7 ∷ [])) (around 4 7) gives 12 ∷ 2 ∷ 3 ∷ 4 ∷ 2 ∷ 3 ∷ []) ∷
    (asks start (around 5 7) gives 13 ∷ 2 ∷ 3 ∷ 4 ∷ 2 ∷ 3 ∷ []) ∷
    (asks start (around 6 7) gives 14 ∷ 2 ∷ 3 ∷ 4 ∷ 2 ∷ 3 ∷ []) ∷
    -- FLUSH; FLUSHLOG, FENCE and PRUNE, "Unused fields are 0: .. place in 8, 9 and 10", and where 15 would follow
    (asks start (around 7 15) gives 0 ∷ 2 ∷ 3 ∷ 4 ∷ 2 ∷ 3 ∷ []) ∷
    (asks start (around 8 0) gives 0 ∷ 2 ∷ 4 ∷ 4 ∷ 2 ∷ 4 ∷ []) ∷
    (asks start (around 9 0) gives 0 ∷ 2 ∷ 4 ∷ 4 ∷ 2 ∷ 4 ∷ []) ∷
    (asks (ran released7) (around 10 0) gives 0 ∷ 2 ∷ 4 ∷ 4 ∷ 2 ∷ 4 ∷ []) ∷
    (asks start (around 10 0) gives 15 ∷ 2 ∷ 4 ∷ 4 ∷ 2 ∷ 4 ∷ []) ∷
    -- EVICTLOG, and where 18 would follow
    (asks (after (from_rank 3 63) (LOG 3 5 ∷ [])) (around 12 63) gives 0 ∷ 2 ∷ 3 ∷ 4 ∷ 2 ∷ 3 ∷ []) ∷
    (asks start (around 12 63) gives 18 ∷ 2 ∷ 3 ∷ 4 ∷ 2 ∷ 3 ∷ []) ∷
    -- EVICTCELL: "step 13 uses 2, 3 and 4, its thread unused"
    (asks start (around 13 127) gives 4 ∷ 2 ∷ 3 ∷ 4 ∷ 2 ∷ 3 ∷ []) ∷
    (asks start (EVICTCELL 127 ∷ step 13 1 127 0 ∷ step 13 2 127 0 ∷ EVICTCELL 128 ∷ step 13 0 127 1 ∷ []) gives 0 ∷ 4 ∷ 4 ∷ 3 ∷ 4 ∷ []) ∷
    -- EVICTWORDS: "step 14 uses 3 for its slot, then new 19: its value not 1 to 4, then 18"
    (asks (after (from_rank 3 63) (LOG 3 5 ∷ [])) (around 14 63) gives 19 ∷ 2 ∷ 3 ∷ 0 ∷ 2 ∷ 3 ∷ []) ∷
    (asks start (around 14 63) gives 19 ∷ 2 ∷ 3 ∷ 18 ∷ 2 ∷ 3 ∷ []) ∷
    (asks (after (from_rank 3 63) (LOG 3 5 ∷ [])) (tab 7 (λ count. EVICTWORDS 3 63 count)) gives 19 ∷ 0 ∷ 0 ∷ 0 ∷ 0 ∷ 19 ∷ 19 ∷ []) ∷
    (asks start (tab 7 (λ count. EVICTWORDS 3 63 count)) gives 19 ∷ 18 ∷ 18 ∷ 18 ∷ 18 ∷ 19 ∷ 19 ∷ []) ∷
    -- "20: the program's text line is unreadable", which no step answers
    (number_of (Err Unreadable) ∷ [] gives 20 ∷ []) ∷ []

-- ---- refused because of the state

-- thread 1 has logged cell 9; thread 0 has logged cell 5 under lock 0 and is closing
unfoldable pub closing : List Step
closing = LOG 1 9 ∷ ACQUIRE 0 0 ∷ LOG 0 5 ∷ LOGREL 0 0 ∷ []

-- thread 0 has logged cell 5, and the entry is firm
unfoldable pub firm5 : List Step
firm5 = LOG 0 5 ∷ FLUSHLOG 0 ∷ FENCE 0 ∷ []

-- thread 3 has live entries of ranks 62 to 64
unfoldable pub ranks62 : Machine
ranks62 = after (from_rank 3 62) (LOG 3 5 ∷ LOG 3 6 ∷ LOG 3 7 ∷ [])

-- "each step tests its numbers from left to right"
unfoldable pub state_rows : List Row
state_rows =
    -- "7: the thread is closing": LOG also where 8 would follow, STORE where 10, ACQUIRE where 12 and LOGREL where 13. A closing thread has
    -- no current region, so with 7 no cell has an entry there, and a STORE always has 10 and never 11
    (asks (ran closing) (LOG 0 6 ∷ LOG 0 5 ∷ LOG 0 9 ∷ STORE 0 5 1 ∷ STORE 0 6 1 ∷ []) gives replicate 5 7) ∷
    (asks (ran closing) (ACQUIRE 0 1 ∷ ACQUIRE 0 0 ∷ LOGREL 0 0 ∷ LOGREL 0 1 ∷ []) gives replicate 4 7) ∷
    -- LOAD, FLUSH, FLUSHLOG, FENCE and the evictions do not ask for 7, and another thread is not closing
    (asks (ran closing) (LOAD 0 5 ∷ FLUSH 0 0 ∷ FLUSHLOG 0 ∷ FENCE 0 ∷ EVICTLOG 0 2 ∷ []) gives replicate 5 0) ∷
    (asks (ran closing) (EVICTCELL 5 ∷ EVICTWORDS 0 2 1 ∷ []) gives 0 ∷ 0 ∷ []) ∷
    (asks (ran closing) (LOG 1 6 ∷ ACQUIRE 1 1 ∷ []) gives 0 ∷ 0 ∷ []) ∷
    -- RELEASE "14: not closing on this lock", also where 11 would follow; "11: some live entry up to .. the RELEASE entry .. isn't firm"
    (asks (ran closing) (RELEASE 0 1 ∷ RELEASE 1 0 ∷ RELEASE 0 0 ∷ []) gives 14 ∷ 14 ∷ 11 ∷ []) ∷
    (asks (ran (closing ++ (EVICTLOG 0 3 ∷ FLUSHLOG 0 ∷ []))) (RELEASE 0 1 ∷ RELEASE 0 0 ∷ []) gives 14 ∷ 11 ∷ []) ∷
    (asks (ran (closing ++ (FLUSHLOG 0 ∷ FENCE 0 ∷ []))) (RELEASE 0 1 ∷ RELEASE 0 0 ∷ []) gives 14 ∷ 0 ∷ []) ∷
    -- "12: held by anyone. 13: not held by this thread. 14: not closing on this lock."
    (asks (ran (ACQUIRE 0 0 ∷ [])) (ACQUIRE 0 0 ∷ ACQUIRE 1 0 ∷ ACQUIRE 0 1 ∷ ACQUIRE 1 1 ∷ []) gives 12 ∷ 12 ∷ 0 ∷ 0 ∷ []) ∷
    (asks (ran (ACQUIRE 0 0 ∷ [])) (LOGREL 0 0 ∷ LOGREL 1 0 ∷ LOGREL 0 1 ∷ RELEASE 0 0 ∷ []) gives 0 ∷ 13 ∷ 13 ∷ 14 ∷ []) ∷
    (asks (ran released7) (ACQUIRE 0 7 ∷ LOGREL 3 7 ∷ RELEASE 3 7 ∷ LOG 3 6 ∷ []) gives 0 ∷ 13 ∷ 14 ∷ 0 ∷ []) ∷
    -- "10: the cell .. has not, an entry in this thread's current region", which "ends before the next ACQUIRE or with a RELEASE". A LOG is
    -- accepted in either case
    (asks (ran firm5) (LOG 0 5 ∷ LOG 0 6 ∷ STORE 0 5 1 ∷ STORE 0 6 1 ∷ STORE 1 5 1 ∷ []) gives 0 ∷ 0 ∷ 0 ∷ 10 ∷ 10 ∷ []) ∷
    (asks (ran (firm5 ++ (ACQUIRE 0 0 ∷ []))) (LOG 0 5 ∷ STORE 0 5 1 ∷ []) gives 0 ∷ 10 ∷ []) ∷
    (asks (ran released7) (LOG 3 127 ∷ STORE 3 127 1 ∷ []) gives 0 ∷ 10 ∷ []) ∷
    -- STORE "11: some live entry up to the cell's entry .. isn't firm", not one after it. With 10 there is no such entry, so never 11
    (asks (ran (firm5 ++ (LOG 0 6 ∷ []))) (STORE 0 5 1 ∷ STORE 0 6 1 ∷ STORE 0 7 1 ∷ []) gives 0 ∷ 11 ∷ 10 ∷ []) ∷
    -- FLUSHLOG "marks all of the thread's entries made so far"; FENCE: "This thread's marked entries are kept and firm."
    (asks (ran (LOG 0 5 ∷ FLUSHLOG 0 ∷ LOG 0 6 ∷ FENCE 0 ∷ [])) (STORE 0 5 1 ∷ STORE 0 6 1 ∷ []) gives 0 ∷ 11 ∷ []) ∷
    (asks (ran (LOG 0 5 ∷ FLUSHLOG 0 ∷ FENCE 1 ∷ [])) (STORE 0 5 1 ∷ []) gives 11 ∷ []) ∷
    (asks (ran (LOG 0 5 ∷ FLUSHLOG 1 ∷ FENCE 0 ∷ [])) (STORE 0 5 1 ∷ []) gives 11 ∷ []) ∷
    -- EVICTLOG: "Nothing becomes firm." EVICTWORDS: "Neither makes anything firm."
    (asks (ran (LOG 0 5 ∷ EVICTLOG 0 1 ∷ FENCE 0 ∷ [])) (STORE 0 5 1 ∷ []) gives 11 ∷ []) ∷
    (asks (ran (LOG 0 5 ∷ EVICTWORDS 0 1 4 ∷ FENCE 0 ∷ [])) (STORE 0 5 1 ∷ []) gives 11 ∷ []) ∷
    -- "8: it would race with an earlier accepted access": a LOG with any access of another thread, a LOAD with a LOG
    (asks (ran (LOAD 0 9 ∷ LOG 0 10 ∷ [])) (LOAD 1 9 ∷ LOG 1 9 ∷ LOG 0 9 ∷ []) gives 0 ∷ 8 ∷ 0 ∷ []) ∷
    (asks (ran (LOAD 0 9 ∷ LOG 0 10 ∷ [])) (LOAD 1 10 ∷ LOG 1 10 ∷ LOAD 0 10 ∷ []) gives 8 ∷ 8 ∷ 0 ∷ []) ∷
    -- "each RELEASE of a lock before every later ACQUIRE of it", and not what comes after the RELEASE
    (asks (ran (makes 0 4 ++ (LOG 0 10 ∷ ACQUIRE 1 0 ∷ []))) (LOAD 1 9 ∷ LOG 1 9 ∷ LOAD 1 10 ∷ LOAD 2 9 ∷ []) gives 0 ∷ 0 ∷ 8 ∷ 8 ∷ []) ∷
    -- "18: no live entry in the slot": an entry "sits in slot rank mod 64", of its own thread's log; a pruned one is not live
    (asks ranks62 (EVICTLOG 3 61 ∷ EVICTLOG 3 62 ∷ EVICTLOG 3 63 ∷ []) gives 18 ∷ 0 ∷ 0 ∷ []) ∷
    (asks ranks62 (EVICTLOG 3 0 ∷ EVICTLOG 3 1 ∷ EVICTLOG 2 62 ∷ []) gives 0 ∷ 18 ∷ 18 ∷ []) ∷
    (asks (ran (released7 ++ (LOG 3 5 ∷ PRUNE 3 ∷ []))) (EVICTLOG 3 3 ∷ EVICTLOG 3 4 ∷ EVICTLOG 3 5 ∷ []) gives 18 ∷ 0 ∷ 18 ∷ []) ∷
    (asks ranks62 (EVICTWORDS 3 61 1 ∷ EVICTWORDS 3 62 1 ∷ EVICTWORDS 3 63 4 ∷ []) gives 18 ∷ 0 ∷ 0 ∷ []) ∷
    (asks ranks62 (EVICTWORDS 3 0 2 ∷ EVICTWORDS 3 1 2 ∷ EVICTWORDS 2 62 4 ∷ []) gives 0 ∷ 18 ∷ 18 ∷ []) ∷
    (asks (ran (released7 ++ (LOG 3 5 ∷ PRUNE 3 ∷ []))) (EVICTWORDS 3 3 1 ∷ EVICTWORDS 3 4 1 ∷ EVICTWORDS 3 5 1 ∷ []) gives
    18 ∷ 0 ∷ 18 ∷ []) ∷ []

-- ---- PRUNE

-- after thread 0, thread 1 logs three cells under lock 0 and stores to two of them
unfoldable pub follows : List Step
follows = ACQUIRE 1 0 ∷ LOG 1 9 ∷ LOG 1 20 ∷ FLUSHLOG 1 ∷ FENCE 1 ∷ STORE 1 9 5 ∷ STORE 1 20 6 ∷ LOG 1 30 ∷ []

-- thread 1's PRUNE at first, when an ACQUIRE has ended its region, when its entries are firm, when thread 0's region is pruned, and when
-- its cells are firm; and one more
unfoldable pub prunes : List Step
prunes =
    (PRUNE 1 ∷ ACQUIRE 1 1 ∷ PRUNE 1 ∷ FLUSHLOG 1 ∷ FENCE 1 ∷ PRUNE 1 ∷ []) ++
    (FLUSH 0 1 ∷ FENCE 0 ∷ PRUNE 0 ∷ PRUNE 1 ∷ FLUSH 1 2 ∷ FENCE 1 ∷ PRUNE 1 ∷ PRUNE 1 ∷ [])

-- threads 0, 1 and 2 write cell 9 one after the other, and its line is kept
unfoldable pub in_turn : List Step
in_turn = makes 0 4 ++ makes 1 5 ++ makes 2 6 ++ (FLUSH 2 1 ∷ FENCE 2 ∷ [])

-- thread 0 writes cell 9, its line is kept, and it writes this cell in a next region
unfoldable pub writes_again : ℕ → List Step
writes_again cell =
    makes 0 4 ++ (FLUSH 0 1 ∷ FENCE 0 ∷ ACQUIRE 0 0 ∷ LOG 0 cell ∷ FLUSHLOG 0 ∷ FENCE 0 ∷ STORE 0 cell 6 ∷ [])

-- thread 0's regions are a LOG, an ACQUIRE, an ACQUIRE and a RELEASE, a RELEASE, and a LOG
unfoldable pub nested : List Step
nested =
    (LOG 0 5 ∷ ACQUIRE 0 0 ∷ ACQUIRE 0 1 ∷ LOGREL 0 1 ∷ FLUSHLOG 0 ∷ FENCE 0 ∷ RELEASE 0 1 ∷ []) ++
    (LOGREL 0 0 ∷ FLUSHLOG 0 ∷ FENCE 0 ∷ RELEASE 0 0 ∷ LOG 0 6 ∷ [])

unfoldable pub prune_rows : List Row
prune_rows =
    -- "PRUNE 15, 11, 16, 17": each also where those after it would follow; at last the oldest region is the current one
    (answered numbered (makes 0 4 ++ follows) gives replicate 17 0) ∷
    (takes (ran (makes 0 4 ++ follows)) prunes gives 15 ∷ 0 ∷ 11 ∷ 0 ∷ 0 ∷ 16 ∷ 0 ∷ 0 ∷ 0 ∷ 17 ∷ 0 ∷ 0 ∷ 0 ∷ 15 ∷ []) ∷
    -- "15: no finished region is unpruned", "finished when the RELEASE step was taken or the next ACQUIRE exists"
    (asks (ran closes7) (PRUNE 3 ∷ []) gives 15 ∷ []) ∷
    (asks (ran released7) (PRUNE 3 ∷ PRUNE 2 ∷ []) gives 0 ∷ 15 ∷ []) ∷
    (asks (ran (released7 ++ (ACQUIRE 3 7 ∷ LOGREL 3 7 ∷ []))) (PRUNE 3 ∷ []) gives 0 ∷ []) ∷
    (asks (ran (released7 ++ (PRUNE 3 ∷ []))) (PRUNE 3 ∷ []) gives 15 ∷ []) ∷
    -- "it begins at the start, with an ACQUIRE, or after a RELEASE, and ends before the next ACQUIRE or with a RELEASE"
    (takes (ran nested) (replicate 5 (PRUNE 0)) gives 0 ∷ 0 ∷ 0 ∷ 0 ∷ 15 ∷ []) ∷
    (given (ran nested) (replicate 5 (PRUNE 0)) gives 1 ∷ 1 ∷ 2 ∷ 1 ∷ 0 ∷ []) ∷
    -- "11: some live entry up to .. the region's end (PRUNE) isn't firm": its last entry counts, and a later region's entry and cell do not
    (asks (ran (firm5 ++ (LOG 0 6 ∷ ACQUIRE 0 0 ∷ []))) (PRUNE 0 ∷ []) gives 11 ∷ []) ∷
    (asks (ran (firm5 ++ (ACQUIRE 0 0 ∷ LOG 0 9 ∷ FLUSHLOG 0 ∷ FENCE 0 ∷ STORE 0 9 1 ∷ LOG 0 6 ∷ []))) (PRUNE 0 ∷ []) gives 0 ∷ []) ∷
    -- "16: the region begins with ACQUIRE of count k and fewer than k regions ending in a RELEASE of that lock are pruned": k is 2
    (answered numbered in_turn gives replicate 29 0) ∷
    (takes (ran in_turn) (PRUNE 0 ∷ PRUNE 2 ∷ PRUNE 1 ∷ PRUNE 2 ∷ []) gives 0 ∷ 16 ∷ 0 ∷ 0 ∷ []) ∷
    -- "17: a cell it logged isn't firm", by a later STORE to it too; another cell of its line does not matter
    (asks (ran (writes_again 9)) (PRUNE 0 ∷ []) gives 17 ∷ []) ∷
    (asks (ran (writes_again 10)) (PRUNE 0 ∷ []) gives 0 ∷ []) ∷ []

-- ---- ranks and room

-- what the steps answer on the machine, and then after each of these further runs
unfoldable pub asks_along : Machine → List (List Step) → List Step → List ℕ
asks_along machine [] steps = asks machine steps
asks_along machine (run ∷ runs) steps = asks machine steps ++ asks_along (after machine run) runs steps

-- thread 1 has logged cell 100 and holds lock 1; thread 0 has 63 live entries, of ranks 999,936 to 999,998, in three regions: a LOG, an
-- ACQUIRE of lock 3, and an ACQUIRE of lock 0 with LOGs of cells 0 to 59
unfoldable pub crowded : Machine
crowded =
    after
    (from_rank 0 999936)
    ((LOG 1 100 ∷ ACQUIRE 1 1 ∷ LOG 0 127 ∷ ACQUIRE 0 3 ∷ ACQUIRE 0 0 ∷ []) ++ tab 60 (λ cell. LOG 0 cell))

-- runs on `crowded`, after which 64 entries of thread 0 are live; 63, and one rank is left; it is closing, 64 are live and no rank is
-- left; it has released; 63 are live
unfoldable pub runs_out : List (List Step)
runs_out =
    (LOG 0 60 ∷ []) ∷
    (FLUSHLOG 0 ∷ FENCE 0 ∷ PRUNE 0 ∷ []) ∷
    (LOGREL 0 0 ∷ []) ∷ (FLUSHLOG 0 ∷ FENCE 0 ∷ RELEASE 0 0 ∷ []) ∷ (PRUNE 0 ∷ []) ∷ []

-- steps of thread 0: LOG of a cell that nobody logged, of cell 0, of thread 1's cell; ACQUIRE of a free lock, of thread 1's; LOGREL of its
-- own lock, of thread 1's
unfoldable pub appends : List Step
appends = LOG 0 99 ∷ LOG 0 0 ∷ LOG 0 100 ∷ ACQUIRE 0 2 ∷ ACQUIRE 0 1 ∷ LOGREL 0 3 ∷ LOGREL 0 1 ∷ []

unfoldable pub room_rows : List Row
room_rows =
    -- "LOG's order is 7, 8, 6, 5." "ACQUIRE 7, 12, 6, 5. LOGREL 7, 13, 6, 5." "5: 64 live entries. 6: rank 1,000,000 is given." Until the
    -- thread is closing, cell 0 has an entry in its current region: a LOG of it is accepted where a LOG that appends is 5
    (asks_along crowded runs_out appends gives
    (0 ∷ 0 ∷ 8 ∷ 0 ∷ 12 ∷ 0 ∷ 13 ∷ []) ++
    (5 ∷ 0 ∷ 8 ∷ 5 ∷ 12 ∷ 5 ∷ 13 ∷ []) ++
    (0 ∷ 0 ∷ 8 ∷ 0 ∷ 12 ∷ 0 ∷ 13 ∷ []) ++
    replicate 7 7 ++
    (6 ∷ 6 ∷ 8 ∷ 6 ∷ 12 ∷ 6 ∷ 13 ∷ []) ++
    (6 ∷ 6 ∷ 8 ∷ 6 ∷ 12 ∷ 6 ∷ 13 ∷ [])) ∷
    -- "a rank (1 to 1,000,000 per thread, in order of making)": when the last is given, the cell that has it is logged again, and no other
    (asks (after (from_rank 0 1000000) (LOG 0 5 ∷ [])) (LOG 0 5 ∷ LOG 0 6 ∷ LOG 1 6 ∷ []) gives 0 ∷ 6 ∷ 0 ∷ []) ∷
    (given (from_rank 0 1000000) (LOG 0 5 ∷ LOG 0 5 ∷ LOG 0 6 ∷ LOG 0 5 ∷ []) gives 1000000 ∷ 1000000 ∷ 0 ∷ 1000000 ∷ []) ∷
    (given (from_rank 0 999999) (LOG 0 5 ∷ LOG 0 6 ∷ LOG 0 7 ∷ LOG 1 8 ∷ []) gives 999999 ∷ 1000000 ∷ 0 ∷ 1 ∷ []) ∷
    -- "A released region of 3 entries and 61 LOGs: the next is 5. PRUNE, then three are accepted and the fourth is 5."
    (answered numbered (released7 ++ tab 62 (λ cell. LOG 3 cell) ++ (PRUNE 3 ∷ []) ++ tab 4 (λ more. LOG 3 (more + 61))) gives
    replicate 69 0 ++ (5 ∷ 0 ∷ 0 ∷ 0 ∷ 0 ∷ 5 ∷ [])) ∷
    -- document 02: "for each slot 0 to 63 the slot of the rank after, so 0 after 63"
    (tab 64 next_slot_of gives tab 63 (λ slot. slot + 1) ++ (0 ∷ [])) ∷ []

-- ---- logging a cell again

-- thread 0 logs cells 0 to 63, cell 64, cells 9 and 63 again, and cell 65
unfoldable pub logs64 : List Step
logs64 = tab 64 (λ cell. LOG 0 cell) ++ (LOG 0 64 ∷ LOG 0 9 ∷ LOG 0 63 ∷ LOG 0 65 ∷ [])

-- thread 0 logs cell 9 twice; twice under lock 0; while it is closing; twice after the RELEASE, and after a LOG of another cell
unfoldable pub logs_nine : List Step
logs_nine =
    (LOG 0 9 ∷ LOG 0 9 ∷ ACQUIRE 0 0 ∷ LOG 0 9 ∷ LOG 0 9 ∷ LOGREL 0 0 ∷ LOG 0 9 ∷ []) ++
    (FLUSHLOG 0 ∷ FENCE 0 ∷ LOG 0 9 ∷ RELEASE 0 0 ∷ LOG 0 9 ∷ LOG 0 9 ∷ LOG 0 10 ∷ LOG 0 9 ∷ [])

-- thread 0 logs cell 9 at every store to it
unfoldable pub stores_nine : List Step
stores_nine = LOG 0 9 ∷ FLUSHLOG 0 ∷ FENCE 0 ∷ LOG 0 9 ∷ STORE 0 9 7 ∷ LOG 0 9 ∷ STORE 0 9 8 ∷ LOG 0 9 ∷ []

-- thread 0 logs cell 10, and its region is ended and pruned
unfoldable pub ends_nine : List Step
ends_nine = LOG 0 10 ∷ ACQUIRE 0 0 ∷ FLUSHLOG 0 ∷ FLUSH 0 1 ∷ FENCE 0 ∷ PRUNE 0 ∷ []

-- thread 0 logs cell 9 twice under lock 0 and passes the lock to thread 1
unfoldable pub passes_nine : List Step
passes_nine = ACQUIRE 0 0 ∷ LOG 0 9 ∷ LOG 0 9 ∷ LOGREL 0 0 ∷ FLUSHLOG 0 ∷ FENCE 0 ∷ RELEASE 0 0 ∷ ACQUIRE 1 0 ∷ []

-- a machine that no steps make: thread 0 is closing on lock 0, and its current region has an entry of cell 9
unfoldable pub closes_early : Machine
closes_early =
    let log = log_of (ran stores_nine) 0 in
    with_log (ran stores_nine) 0 (record {
      cached = log.cached;
      persisted = log.persisted;
      head = log.head;
      tail = record {
        next = log.tail.next;
        durable = log.tail.durable;
        flushed = log.tail.flushed;
        releasing = Some 0;
      };
    })

-- a machine that no steps make: thread 0's current region has an entry of cell 9, and a LOG of the cell by thread 1 is not in order with it
unfoldable pub unordered : Machine
unordered = with_accesses (ran stores_nine) (logged_cell_of (ran stores_nine).accesses 1 9 1)

-- what a LOG of thread 0 could change: its seen entries and the ranks of its record, the clocks and the accesses; and the image
unfoldable pub traces : Machine → List ℕ
traces machine =
    let log = log_of machine 0 in
    words_of log.cached ++
    (log.tail.next.0 ∷ log.tail.durable.0 ∷ log.tail.flushed.0 ∷ []) ++
    flatten (map (λ clock. clock.t0 ∷ clock.t1 ∷ clock.t2 ∷ clock.t3 ∷ []) machine.clocks) ++
    machine.accesses.stamps ++ machine.accesses.logged ++ machine.accesses.loggers ++ image_of machine

-- "A LOG of a cell with an entry in the current region .. answers the first entry's rank and appends nothing; only 7 comes before it."
unfoldable pub again_rows : List Row
again_rows =
    -- with 64 live entries their cells are logged again, each with its rank, and a further one is 5
    (takes start logs64 gives replicate 64 0 ++ (5 ∷ 0 ∷ 0 ∷ 5 ∷ [])) ∷
    (given start logs64 gives tab 64 (λ cell. cell + 1) ++ (0 ∷ 10 ∷ 64 ∷ 0 ∷ [])) ∷
    -- 7 comes before it; a region that an ACQUIRE began, or that begins after a RELEASE, has no entry of the cell: the next rank is given
    (takes start logs_nine gives (0 ∷ 0 ∷ 0 ∷ 0 ∷ 0 ∷ 0 ∷ 7 ∷ []) ++ (0 ∷ 0 ∷ 7 ∷ 0 ∷ 0 ∷ 0 ∷ 0 ∷ 0 ∷ [])) ∷
    (given start logs_nine gives (1 ∷ 1 ∷ 0 ∷ 3 ∷ 3 ∷ 0 ∷ 0 ∷ []) ++ (0 ∷ 4 ∷ 0 ∷ 0 ∷ 5 ∷ 5 ∷ 6 ∷ 5 ∷ [])) ∷
    -- ranks 62 to 64 sit in slots 62, 63 and 0
    (given ranks62 (LOG 3 5 ∷ LOG 3 6 ∷ LOG 3 7 ∷ LOG 3 8 ∷ []) gives 62 ∷ 63 ∷ 64 ∷ 65 ∷ []) ∷
    -- a STORE asks for the first entry to be firm, and that entry's old content is what recovery writes back
    (takes start stores_nine gives replicate 8 0) ∷
    (given start stores_nine gives 1 ∷ 0 ∷ 1 ∷ 1 ∷ 0 ∷ 1 ∷ 0 ∷ 1 ∷ []) ∷
    (words 132 12 (ran (stores_nine ++ (FLUSHLOG 0 ∷ FENCE 0 ∷ []))) gives entry 0 0 0 0 ++ entry 1 9 109 1 ++ entry 0 0 0 0) ∷
    (recovered numbered (stores_nine ++ (FLUSHLOG 0 ∷ FENCE 0 ∷ EVICT 1)) gives 0 ∷ numbered) ∷
    -- it "appends nothing": one entry is live, the next LOG has the next rank, and PRUNE frees the entries of cells 9 and 10
    (asks (ran stores_nine) (EVICTLOG 0 1 ∷ EVICTLOG 0 2 ∷ []) gives 0 ∷ 18 ∷ []) ∷
    (given (ran stores_nine) ends_nine gives 2 ∷ 0 ∷ 0 ∷ 0 ∷ 3 ∷ 2 ∷ []) ∷
    -- another thread's accesses race with it as with the first LOG, and come after both through the lock
    (asks (ran stores_nine) (LOAD 1 9 ∷ LOG 1 9 ∷ LOAD 1 10 ∷ LOG 1 10 ∷ []) gives 8 ∷ 8 ∷ 0 ∷ 0 ∷ []) ∷
    (asks (ran passes_nine) (LOAD 1 9 ∷ LOG 1 9 ∷ LOAD 2 9 ∷ LOG 2 9 ∷ []) gives 0 ∷ 0 ∷ 8 ∷ 8 ∷ []) ∷
    -- "only 7 comes before it", and not 8: by steps no LOG has the one or the other. Earlier accesses are in order with the region's LOG of
    -- the cell, later ones would race with that LOG, and a closing thread has no current region
    (asks closes_early (LOG 0 9 ∷ LOG 0 10 ∷ []) gives 7 ∷ 7 ∷ []) ∷
    (asks unordered (LOG 0 9 ∷ LOAD 0 9 ∷ LOG 0 10 ∷ []) gives 0 ∷ 8 ∷ 0 ∷ []) ∷
    (traces (after unordered (LOG 0 9 ∷ [])) gives traces unordered) ∷ []

-- ---- numbers given

-- the listing program's whole input
unfoldable pub worked : List Step
worked =
    (ACQUIRE 0 2 ∷ LOG 0 5 ∷ FLUSHLOG 0 ∷ FENCE 0 ∷ STORE 0 5 7 ∷ LOGREL 0 2 ∷ []) ++
    (FLUSHLOG 0 ∷ FLUSH 0 0 ∷ FENCE 0 ∷ RELEASE 0 2 ∷ PRUNE 0 ∷ [])

-- threads 0, 1 and 0 again write cell 9 under lock 0
unfoldable pub turns : List Step
turns = makes 0 4 ++ makes 1 5 ++ makes 0 6

-- thread 2 takes lock 0 and another, cell 9 is kept, and the three regions that wrote it are pruned
unfoldable pub after_turns : List Step
after_turns =
    (ACQUIRE 2 0 ∷ LOAD 2 9 ∷ LOAD 2 127 ∷ ACQUIRE 2 1 ∷ LOGREL 2 0 ∷ []) ++
    (FLUSH 1 1 ∷ FENCE 1 ∷ EVICTCELL 9 ∷ EVICTLOG 2 1 ∷ PRUNE 0 ∷ PRUNE 1 ∷ PRUNE 0 ∷ [])

-- refused steps, and after each some step that would answer otherwise if the refused one had changed anything
unfoldable pub refusals : List Step
refusals =
    (LOG 0 9 ∷ STORE 0 9 7 ∷ LOG 1 9 ∷ LOAD 1 9 ∷ LOAD 0 9 ∷ LOG 1 10 ∷ []) ++
    (ACQUIRE 0 0 ∷ ACQUIRE 1 0 ∷ LOGREL 1 0 ∷ LOG 1 11 ∷ LOGREL 0 0 ∷ LOG 0 12 ∷ RELEASE 0 0 ∷ ACQUIRE 1 0 ∷ []) ++
    (FLUSHLOG 0 ∷ step 9 0 1 0 ∷ RELEASE 0 0 ∷ FENCE 0 ∷ RELEASE 0 1 ∷ RELEASE 0 0 ∷ ACQUIRE 1 0 ∷ []) ++
    (PRUNE 1 ∷ FLUSHLOG 1 ∷ FENCE 1 ∷ PRUNE 1 ∷ LOG 0 9 ∷ [])

-- the number beside a refusal
abbrev pub beside : Refusal → ℕ
beside refusal = value_of (Err refusal)

unfoldable pub given_rows : List Row
given_rows =
    -- "all with answer 0 and value 0 but `n=2 answer=0 value=2` and `n=11 answer=0 value=3`; then `cell=5 holds=7`"; document 02: "lines 4
    -- and 9 then show value 2"
    (answered zero_cells worked gives replicate 11 0) ∷
    (given (start_machine zero_cells) worked gives 0 ∷ 2 ∷ 0 ∷ 2 ∷ 0 ∷ 0 ∷ 0 ∷ 0 ∷ 2 ∷ 0 ∷ 3 ∷ []) ∷
    (recovered zero_cells worked gives 0 ∷ set zero_cells 5 7) ∷
    -- LOAD "answers its seen content", LOG "the rank", ACQUIRE and LOGREL "the count", FENCE what it carried, PRUNE "how many entries that
    -- freed"; "else 0"
    (answered numbered (turns ++ after_turns) gives replicate 39 0) ∷
    (given start turns gives
    (0 ∷ 2 ∷ 0 ∷ 2 ∷ 0 ∷ 0 ∷ 0 ∷ 1 ∷ 0 ∷ []) ++
    (1 ∷ 2 ∷ 0 ∷ 2 ∷ 0 ∷ 1 ∷ 0 ∷ 1 ∷ 0 ∷ []) ++
    (2 ∷ 5 ∷ 0 ∷ 2 ∷ 0 ∷ 2 ∷ 0 ∷ 1 ∷ 0 ∷ [])) ∷
    (given (ran turns) after_turns gives 3 ∷ 6 ∷ 227 ∷ 0 ∷ 3 ∷ 0 ∷ 1 ∷ 0 ∷ 0 ∷ 3 ∷ 3 ∷ 3 ∷ []) ∷
    (given (ran (makes 0 4 ++ follows)) prunes gives 0 ∷ 0 ∷ 0 ∷ 0 ∷ 2 ∷ 0 ∷ 0 ∷ 1 ∷ 3 ∷ 0 ∷ 0 ∷ 1 ∷ 4 ∷ 0 ∷ []) ∷
    -- "no state or buffer changes and the number beside is 0"
    (answered numbered refusals gives
    (0 ∷ 11 ∷ 8 ∷ 8 ∷ 0 ∷ 0 ∷ []) ++
    (0 ∷ 12 ∷ 13 ∷ 0 ∷ 0 ∷ 7 ∷ 11 ∷ 12 ∷ []) ++
    (0 ∷ 4 ∷ 11 ∷ 0 ∷ 14 ∷ 0 ∷ 0 ∷ []) ++
    (11 ∷ 0 ∷ 0 ∷ 0 ∷ 0 ∷ [])) ∷
    (given start refusals gives
    (1 ∷ 0 ∷ 0 ∷ 0 ∷ 109 ∷ 1 ∷ []) ++
    (0 ∷ 0 ∷ 0 ∷ 2 ∷ 0 ∷ 0 ∷ 0 ∷ 0 ∷ []) ++
    (0 ∷ 0 ∷ 0 ∷ 3 ∷ 0 ∷ 0 ∷ 1 ∷ []) ++
    (0 ∷ 0 ∷ 3 ∷ 2 ∷ 4 ∷ [])) ∷
    (map beside (NoSuchKind ∷ NoSuchThread ∷ NoSuchPlace ∷ UnusedField ∷ NoSuchWordCount ∷ []) gives replicate 5 0) ∷
    (map beside (LogFull ∷ LsnsUsedUp ∷ Releasing ∷ Race ∷ NotLogged ∷ EntryNotDurable ∷ []) gives replicate 6 0) ∷
    (map beside (LockHeld ∷ LockNotHeld ∷ NotReleasing ∷ NothingToPrune ∷ []) gives replicate 4 0) ∷
    (map beside (EarlierReleaseNotPruned ∷ CellNotDurable ∷ NoLiveEntry ∷ []) gives replicate 3 0) ∷
    (map beside (Unreadable ∷ WrongLength ∷ BadHead ∷ BadEntry ∷ Cyclic ∷ TooManyCells ∷ NotPairs ∷ NotAnOrder ∷ []) gives
    replicate 8 0) ∷ []

-- ---- many cells logged in one call

-- what a call answers: how many cells were accepted, the refusal that stopped it, or 0, and the number beside that
unfoldable pub logs_many : Machine → ℕ → List ℕ → List ℕ
logs_many machine thread cells =
    let logged = log_cells_of machine thread cells in
    logged.count ∷ number_of logged.answer ∷ value_of logged.answer ∷ []

-- slots 1 to 3 of thread 3 in the image, once the entries are firm that a call of thread 3 made
unfoldable pub enters : List ℕ → List ℕ
enters cells = words 904 12 (after (log_cells_of start 3 cells).machine (FLUSHLOG 3 ∷ FENCE 3 ∷ []))

-- "a thread and a lent list of up to 16 cells .. It answers how many were accepted, and the refusal that stopped it, or 0."
unfoldable pub many_rows : List Row
many_rows =
    -- "up to 16", the last cells by the last thread; a list with no cell in it, of any thread
    (logs_many start 3 (tab 16 (λ index. index + 112)) gives 16 ∷ 0 ∷ 0 ∷ []) ∷
    (logs_many start 4 [] gives 0 ∷ 0 ∷ 0 ∷ []) ∷
    -- "25: a list longer than 16, tested first; it changes nothing", also where 2 and 3 would follow
    (logs_many start 3 (tab 17 (λ index. index)) gives 0 ∷ 25 ∷ 0 ∷ []) ∷
    (logs_many start 4 (replicate 17 128) gives 0 ∷ 25 ∷ 0 ∷ []) ∷
    (enters (tab 17 (λ index. index)) gives replicate 12 0) ∷
    -- "logs them in order"
    (enters (7 ∷ 5 ∷ 9 ∷ []) gives entry 1 7 107 1 ++ entry 1 5 105 2 ++ entry 1 9 109 3) ∷
    -- a cell that is logged again is accepted, and appends nothing
    (logs_many start 3 (5 ∷ 5 ∷ 6 ∷ 5 ∷ []) gives 4 ∷ 0 ∷ 0 ∷ []) ∷
    (enters (5 ∷ 5 ∷ 6 ∷ 5 ∷ []) gives entry 1 5 105 1 ++ entry 1 6 106 2 ++ entry 0 0 0 0) ∷
    -- "up to the first refused", by 3, 2, 8, 7 and 6
    (logs_many start 3 (5 ∷ 6 ∷ 128 ∷ 7 ∷ []) gives 2 ∷ 3 ∷ 0 ∷ []) ∷
    (enters (5 ∷ 6 ∷ 128 ∷ 7 ∷ []) gives entry 1 5 105 1 ++ entry 1 6 106 2 ++ entry 0 0 0 0) ∷
    (logs_many start 4 (5 ∷ []) gives 0 ∷ 2 ∷ 0 ∷ []) ∷
    (logs_many (ran (LOG 1 9 ∷ [])) 0 (5 ∷ 9 ∷ 6 ∷ []) gives 1 ∷ 8 ∷ 0 ∷ []) ∷
    (logs_many (ran closes7) 3 (5 ∷ []) gives 0 ∷ 7 ∷ 0 ∷ []) ∷
    (logs_many (from_rank 0 999999) 0 (5 ∷ 6 ∷ 7 ∷ []) gives 2 ∷ 6 ∷ 0 ∷ []) ∷ []

-- ---- what is kept and what is firm

-- thread 0 stores 1 to 4 to cells 7, 8, 15 and 16: the last of line 0, the first and the last of line 1, the first of line 2
unfoldable pub stored : List Step
stored =
    (LOG 0 7 ∷ LOG 0 8 ∷ LOG 0 15 ∷ LOG 0 16 ∷ FLUSHLOG 0 ∷ FENCE 0 ∷ []) ++
    (STORE 0 7 1 ∷ STORE 0 8 2 ∷ STORE 0 15 3 ∷ STORE 0 16 4 ∷ [])

-- the kept contents of cells 7, 8, 15 and 16
unfoldable pub four_kept : Machine → List ℕ
four_kept machine = map (λ cell. get_or (image_of machine) cell 0) (7 ∷ 8 ∷ 15 ∷ 16 ∷ [])

-- the same after the STOREs to them and further steps
unfoldable pub keeps : List Step → List ℕ
keeps steps = four_kept (ran (stored ++ steps))

-- what PRUNE answers once the region with the STOREs to cells 7, 8, 15 and 16 is ended and further steps are taken
unfoldable pub frees : List Step → List ℕ
frees steps = asks (ran (stored ++ (ACQUIRE 0 0 ∷ []) ++ steps)) (PRUNE 0 ∷ [])

unfoldable pub kept_rows : List Row
kept_rows =
    -- "A cut loses the seen one." A mark keeps nothing, nor does another thread's FENCE
    (keeps [] gives 107 ∷ 108 ∷ 115 ∷ 116 ∷ []) ∷
    (keeps (FLUSH 0 1 ∷ FENCE 1 ∷ []) gives 107 ∷ 108 ∷ 115 ∷ 116 ∷ []) ∷
    -- "cell c is in line c / 8, rounded down": FENCE and eight EVICTCELLs keep whole lines and no others; any thread may flush
    (keeps (FLUSH 0 1 ∷ FENCE 0 ∷ []) gives 107 ∷ 2 ∷ 3 ∷ 116 ∷ []) ∷
    (keeps (FLUSH 1 1 ∷ FENCE 1 ∷ []) gives 107 ∷ 2 ∷ 3 ∷ 116 ∷ []) ∷
    (keeps (EVICT 1) gives 107 ∷ 2 ∷ 3 ∷ 116 ∷ []) ∷
    -- EVICTCELL: "its seen content alone becomes kept"
    (keeps (EVICTCELL 8 ∷ []) gives 107 ∷ 2 ∷ 115 ∷ 116 ∷ []) ∷
    (keeps (EVICTCELL 7 ∷ EVICTCELL 15 ∷ []) gives 1 ∷ 108 ∷ 3 ∷ 116 ∷ []) ∷
    -- STORE: "All threads' marks on its line go", and no others
    (keeps (FLUSH 0 1 ∷ FLUSH 1 1 ∷ FLUSH 0 0 ∷ FLUSH 1 2 ∷ STORE 0 8 9 ∷ FENCE 0 ∷ FENCE 1 ∷ []) gives 1 ∷ 108 ∷ 115 ∷ 4 ∷ []) ∷
    -- EVICTCELL: "Neither makes anything firm." FENCE: "its 8 cells are firm", of this thread's marked lines: all of lines 0, 1 and 2 have
    -- to be
    (frees (EVICT 0 ++ EVICT 1 ++ EVICT 2) gives 17 ∷ []) ∷
    (frees (EVICTCELL 7 ∷ EVICTCELL 8 ∷ EVICTCELL 15 ∷ EVICTCELL 16 ∷ []) gives 17 ∷ []) ∷
    (frees (FLUSH 0 0 ∷ FLUSH 0 1 ∷ FENCE 0 ∷ []) gives 17 ∷ []) ∷
    (frees (FLUSH 0 1 ∷ FLUSH 0 2 ∷ FENCE 0 ∷ []) gives 17 ∷ []) ∷
    (frees (FLUSH 0 0 ∷ FLUSH 0 2 ∷ FLUSH 1 1 ∷ FENCE 0 ∷ []) gives 17 ∷ []) ∷
    (frees (FLUSH 0 0 ∷ FLUSH 0 2 ∷ FLUSH 1 1 ∷ FENCE 0 ∷ FENCE 1 ∷ []) gives 0 ∷ []) ∷ []

-- ---- text lines

-- the numbers of the answers that are printed for text lines, each asked of this same machine
unfoldable pub says : Machine → List Step → List ℕ
says machine lines =
    map (λ line. number_of (script_of machine line.kind line.thread line.place line.value).answer) lines

-- the kept contents of cells 7, 8, 15 and 16 after the STOREs to them and a text line
unfoldable pub keeps_read : Step → List ℕ
keeps_read line = four_kept (script_of (ran stored) line.kind line.thread line.place line.value).machine

-- "The listing program reads it in old listings as eight EVICTCELL steps, lowest cell first, and prints one line for them with answer 0."
unfoldable pub line_rows : List Row
line_rows =
    -- the cells of lines 0, 1 and 2, and of no other
    (keeps_read (step 11 0 0 0) gives 1 ∷ 108 ∷ 115 ∷ 116 ∷ []) ∷
    (keeps_read (step 11 0 1 0) gives 107 ∷ 2 ∷ 3 ∷ 116 ∷ []) ∷
    (keeps_read (step 11 0 2 0) gives 107 ∷ 108 ∷ 115 ∷ 4 ∷ []) ∷
    (value_of (script_of (ran stored) 11 0 1 0).answer ∷ [] gives 0 ∷ []) ∷
    -- "A bad field in such a text line is answered as before": 2, 3 and 4, in this order, and nothing changes
    (says start (around 11 15) gives 4 ∷ 2 ∷ 3 ∷ 4 ∷ 2 ∷ 3 ∷ []) ∷
    (says start (step 11 0 15 0 ∷ step 11 1 15 0 ∷ step 11 2 15 0 ∷ step 11 0 16 0 ∷ step 11 0 15 1 ∷ []) gives 0 ∷ 4 ∷ 4 ∷ 3 ∷ 4 ∷ []) ∷
    (keeps_read (step 11 1 1 0) gives 107 ∷ 108 ∷ 115 ∷ 116 ∷ []) ∷
    (keeps_read (step 11 0 1 1) gives 107 ∷ 108 ∷ 115 ∷ 116 ∷ []) ∷
    -- any other line is the step that it says
    (keeps_read (EVICTCELL 8) gives 107 ∷ 2 ∷ 115 ∷ 116 ∷ []) ∷
    (says start (STORE 0 5 7 ∷ LOG 4 5 ∷ EVICTLOG 0 1 ∷ step 10 0 1 0 ∷ step 15 0 0 0 ∷ []) gives 10 ∷ 2 ∷ 18 ∷ 4 ∷ 1 ∷ []) ∷ []

-- ---- what a fence carried

-- thread 3 flushes all lines, and as many entries as its log holds
unfoldable pub flushes_all : List Step
flushes_all = tab 64 (λ cell. LOG 3 cell) ++ (FLUSHLOG 3 ∷ []) ++ tab 16 (λ line. FLUSH 3 line)

-- "FENCE now answers the number of lines with this thread's mark plus its marked entries not yet firm, both as before the step."
unfoldable pub fence_rows : List Row
fence_rows =
    -- all lines and a full log; a FENCE that follows carries nothing
    (given (ran flushes_all) (FENCE 3 ∷ FENCE 3 ∷ []) gives 80 ∷ 0 ∷ []) ∷
    (given start (FENCE 0 ∷ FLUSH 0 0 ∷ FENCE 0 ∷ FLUSH 0 15 ∷ FENCE 0 ∷ FENCE 0 ∷ []) gives 0 ∷ 0 ∷ 1 ∷ 0 ∷ 1 ∷ 0 ∷ []) ∷
    -- "with this thread's mark", of which a line has one at most
    (given start (FLUSH 0 1 ∷ FLUSH 1 1 ∷ FLUSH 1 2 ∷ FENCE 0 ∷ FENCE 1 ∷ FENCE 2 ∷ []) gives 0 ∷ 0 ∷ 0 ∷ 1 ∷ 2 ∷ 0 ∷ []) ∷
    (given start (FLUSH 2 1 ∷ FLUSH 2 1 ∷ FLUSH 2 2 ∷ FENCE 2 ∷ []) gives 0 ∷ 0 ∷ 0 ∷ 2 ∷ []) ∷
    -- EVICTCELLs leave the mark, though what they kept is the seen content; a STORE to the line takes all threads' marks
    (given (ran (stored ++ (FLUSH 0 0 ∷ FLUSH 0 1 ∷ EVICT 1))) (FENCE 0 ∷ []) gives 2 ∷ []) ∷
    (given (ran stored) (FLUSH 0 0 ∷ FLUSH 0 1 ∷ EVICTCELL 8 ∷ FENCE 0 ∷ []) gives 0 ∷ 0 ∷ 0 ∷ 2 ∷ []) ∷
    (given (ran stored) (FLUSH 0 0 ∷ FLUSH 0 1 ∷ FLUSH 1 1 ∷ STORE 0 8 9 ∷ FENCE 0 ∷ FENCE 1 ∷ []) gives 0 ∷ 0 ∷ 0 ∷ 0 ∷ 1 ∷ 0 ∷ []) ∷
    -- "its marked entries": not those made later, nor another thread's
    (given start (LOG 0 5 ∷ FENCE 0 ∷ FLUSHLOG 0 ∷ LOG 0 6 ∷ FENCE 1 ∷ FENCE 0 ∷ []) gives 1 ∷ 0 ∷ 0 ∷ 2 ∷ 0 ∷ 1 ∷ []) ∷
    -- "not yet firm", which an EVICTLOG or EVICTWORDS leaves them
    (given (ran stored) (LOG 0 9 ∷ FLUSHLOG 0 ∷ EVICTWORDS 0 5 4 ∷ FENCE 0 ∷ []) gives 5 ∷ 0 ∷ 0 ∷ 1 ∷ []) ∷
    (given (ran stored) (LOG 0 9 ∷ LOG 0 10 ∷ FLUSHLOG 0 ∷ EVICTLOG 0 5 ∷ FENCE 0 ∷ FLUSHLOG 0 ∷ FENCE 0 ∷ []) gives
    5 ∷ 6 ∷ 0 ∷ 0 ∷ 2 ∷ 0 ∷ 0 ∷ []) ∷
    -- after ranks 63 and 64, which sit in slots 63 and 0
    (given (from_rank 2 63) (LOG 2 5 ∷ LOG 2 6 ∷ FLUSHLOG 2 ∷ FENCE 2 ∷ []) gives 63 ∷ 64 ∷ 0 ∷ 2 ∷ []) ∷
    -- "the number beside is 0" where a FENCE is refused, and the mark stays
    (given (ran (FLUSH 0 1 ∷ [])) (step 9 0 1 0 ∷ step 9 0 0 1 ∷ step 9 4 0 0 ∷ FENCE 0 ∷ []) gives 0 ∷ 0 ∷ 0 ∷ 1 ∷ []) ∷ []

-- ---- start, cut and image

-- the answer of a start call and the image of its machine
unfoldable pub started : List ℕ → List ℕ
started cells =
    let begun = start_of cells in
    number_of begun.answer ∷ value_of begun.answer ∷ image_of begun.machine

-- the image of these cells and untouched logs
unfoldable pub untouched : List ℕ → List ℕ
untouched cells = cells ++ (1 ∷ 1 ∷ 1 ∷ 1 ∷ []) ++ replicate 1024 0

-- a region of thread 3 under lock 6 is pruned, and a next one is logged; thread 0 has logged a cell
unfoldable pub logs_under6 : List Step
logs_under6 =
    (ACQUIRE 3 6 ∷ LOGREL 3 6 ∷ FLUSHLOG 3 ∷ FENCE 3 ∷ RELEASE 3 6 ∷ PRUNE 3 ∷ []) ++
    (ACQUIRE 3 6 ∷ LOG 3 9 ∷ LOGREL 3 6 ∷ FLUSHLOG 3 ∷ FENCE 3 ∷ LOG 0 7 ∷ [])

-- thread 2 has logged cells 5 and 6, in ranks 63 and 64, and this slot is evicted
unfoldable pub evicts : ℕ → Machine
evicts slot = after (from_rank 2 63) (LOG 2 5 ∷ LOG 2 6 ∷ EVICTLOG 2 slot ∷ [])

-- slots 0 to 2 of thread 2 in the image, whose ACQUIRE of rank 65 sits in slot 1 over the LOG of rank 1, after evictions of so many of its
-- words
unfoldable pub tears : List ℕ → List ℕ
tears counts =
    let old : Entry = record { kind = 1; place = 9; lsn = lsn 1; value = 109 } in
    words 644 12 (after (from_slots (set (replicate 64 zeros) 1 old) 2 65) (ACQUIRE 2 3 ∷ map (EVICTWORDS 2 1) counts))

-- an image whose words tell in which thread's stretch they stand
unfoldable pub striped : List ℕ
striped = replicate 132 0 ++ replicate 256 1 ++ replicate 256 2 ++ replicate 256 3 ++ replicate 256 4

unfoldable pub image_rows : List Row
image_rows =
    -- "21: start not 128 words (the machine given back has all cells 0)". "An untouched slot holds four zeros; heads start at 1."
    (started numbered gives 0 ∷ 0 ∷ untouched numbered) ∷
    (started (take 127 numbered) gives 21 ∷ 0 ∷ untouched zero_cells) ∷
    (started (5 ∷ numbered) gives 21 ∷ 0 ∷ untouched zero_cells) ∷
    (given (start_machine (take 127 numbered)) (LOAD 0 0 ∷ LOAD 0 127 ∷ LOG 0 5 ∷ []) gives 0 ∷ 0 ∷ 1 ∷ []) ∷
    -- 21: "an image buffer not 1,156"
    (leaves (cut_of start (replicate 1155 9)) gives 21 ∷ replicate 1155 9) ∷
    (leaves (cut_of start (replicate 1157 9)) gives 21 ∷ replicate 1157 9) ∷
    (leaves (cut_of start (replicate 1156 9)) gives 0 ∷ untouched numbered) ∷
    -- "128 kept cells; 4 heads; for threads 0 to 3, slots 0 to 63, the words kind, place, value, rank": thread 3's begin at word 900
    (words 128 8 (ran logs_under6) gives 1 ∷ 1 ∷ 1 ∷ 3 ∷ 0 ∷ 0 ∷ 0 ∷ 0 ∷ []) ∷
    (words 900 12 (ran logs_under6) gives entry 0 0 0 0 ++ entry 2 6 0 1 ++ entry 3 6 0 2) ∷
    (words 912 12 (ran logs_under6) gives entry 2 6 1 3 ++ entry 1 9 109 4 ++ entry 3 6 1 5) ∷
    -- "It sits in slot rank mod 64", and EVICTLOG keeps one slot. Thread 2's begin at word 644
    (words 644 4 (evicts 63) ++ words 896 4 (evicts 63) gives entry 0 0 0 0 ++ entry 1 5 105 63) ∷
    (words 644 4 (evicts 0) ++ words 896 4 (evicts 0) gives entry 1 6 106 64 ++ entry 0 0 0 0) ∷
    -- EVICTWORDS: "the first so many words of the live entry there become kept, in the order kind, place, value, rank"; the others stay,
    -- and so do words that are kept already
    (tears [] gives entry 0 0 0 0 ++ entry 1 9 109 1 ++ entry 0 0 0 0) ∷
    (tears (1 ∷ []) gives entry 0 0 0 0 ++ entry 2 9 109 1 ++ entry 0 0 0 0) ∷
    (tears (2 ∷ []) gives entry 0 0 0 0 ++ entry 2 3 109 1 ++ entry 0 0 0 0) ∷
    (tears (3 ∷ 1 ∷ []) gives entry 0 0 0 0 ++ entry 2 3 0 1 ++ entry 0 0 0 0) ∷
    (tears (4 ∷ 2 ∷ []) gives entry 0 0 0 0 ++ entry 2 3 0 65 ++ entry 0 0 0 0) ∷
    -- "a thread's own stretch of the lent image, or an empty part for a thread over 3 or an image not 1,156 words"
    (stretch_of striped 0 ++ stretch_of striped 1 gives replicate 256 1 ++ replicate 256 2) ∷
    (stretch_of striped 2 ++ stretch_of striped 3 gives replicate 256 3 ++ replicate 256 4) ∷
    (stretch_of striped 4 ++ stretch_of (take 1155 striped) 0 ++ stretch_of (0 ∷ striped) 0 gives []) ∷ []

-- ---- recovery, of images that no machine makes

-- a thread's 256 words, with entries from slot 1 on
abbrev pub stretch : List ℕ → List ℕ
stretch entries = take 256 (entry 0 0 0 0 ++ entries ++ replicate 256 0)

-- an image of cells 0 and heads 1, with these entries of threads 0 to 3
unfoldable pub logs : List ℕ → List ℕ → List ℕ → List ℕ → List ℕ
logs log0 log1 log2 log3 = zero_cells ++ (1 ∷ 1 ∷ 1 ∷ 1 ∷ []) ++ stretch log0 ++ stretch log1 ++ stretch log2 ++ stretch log3

-- an image with thread 3's first entry alone
unfoldable pub alone : ℕ → ℕ → ℕ → List ℕ
alone kind place value = logs [] [] [] (entry kind place value 1)

-- the image with another head of a thread
unfoldable pub with_head : List ℕ → ℕ → ℕ → List ℕ
with_head image thread head = set image (128 + thread) head

-- an image with ranks 64 to 127 in all slots: STOREs of cells 0 to 63 by thread 0, of cells 64 to 127 by thread 1, and ACQUIREs
unfoldable pub full : List ℕ
full =
    zero_cells ++
    (64 ∷ 64 ∷ 64 ∷ 64 ∷ []) ++
    flatten (tab 64 (λ slot. entry 1 slot (slot + 200) (slot + 64))) ++
    flatten (tab 64 (λ slot. entry 1 (slot + 64) (slot + 264) (slot + 64))) ++
    flatten (tab 64 (λ slot. entry 2 0 0 (slot + 64))) ++ flatten (tab 64 (λ slot. entry 2 0 0 (slot + 64)))

-- a last RELEASE in each log that waits for nothing: an ACQUIRE of its lock has the same count, or a smaller one; an ACQUIRE of another
-- lock, or a RELEASE and a STORE of the same place, have a larger one
unfoldable pub waits_for_none : List ℕ
waits_for_none =
    logs
    (entry 2 0 1 1 ++ entry 3 0 1 2)
    (entry 2 1 0 1 ++ entry 3 1 1 2)
    (entry 2 2 1 1 ++ entry 3 3 0 2)
    (entry 3 4 1 1 ++ entry 1 4 1 2 ++ entry 3 4 0 3)

-- a last RELEASE of thread 0 that waits for the ACQUIRE between two STOREs of thread 3
unfoldable pub waits_for3 : List ℕ
waits_for3 = logs (entry 1 7 1 1 ++ entry 1 8 2 2 ++ entry 3 0 0 3) [] [] (entry 1 7 4 1 ++ entry 2 0 1 2 ++ entry 1 8 3 3)

-- the numbers of recovery's answers, image by image
unfoldable pub recoveries : List (List ℕ) → List ℕ
recoveries images = map (λ image. number_of (recover_of image lent).answer) images

-- "Recovery tests 21 to 24 in order."
unfoldable pub recovery_rows : List Row
recovery_rows =
    -- "21: .. an image buffer not 1,156, or the recovered buffer not 128", also where 22 would follow
    (outcome (0 ∷ untouched zero_cells) gives 21 ∷ lent) ∷
    (leaves (recover_of (untouched zero_cells) (take 127 lent)) gives 21 ∷ take 127 lent) ∷
    (leaves (recover_of (untouched zero_cells) (99 ∷ lent)) gives 21 ∷ 99 ∷ lent) ∷
    (leaves (recover_of (with_head (untouched zero_cells) 0 0) (take 127 lent)) gives 21 ∷ take 127 lent) ∷
    (outcome (take 1155 (with_head (untouched zero_cells) 0 0)) gives 21 ∷ lent) ∷
    -- "22: a head outside 1 to 1,000,001", of any thread, also where 23 or 24 would follow
    (recoveries (tab 4 (λ thread. with_head (untouched zero_cells) thread 0)) gives replicate 4 22) ∷
    (recoveries (tab 4 (λ thread. with_head (untouched zero_cells) thread 1000002)) gives replicate 4 22) ∷
    (outcome (with_head (with_head (untouched numbered) 0 1000001) 3 1000001) gives 0 ∷ numbered) ∷
    (outcome (with_head (alone 4 0 0) 0 0) gives 22 ∷ lent) ∷
    (outcome (with_head tangled 3 0) gives 22 ∷ lent) ∷
    -- "23: a present entry with a bad kind or place, or a lock count over 4,000,000", of any thread, also where 24 would follow
    (recoveries (alone 0 0 0 ∷ alone 4 0 0 ∷ alone 1 128 0 ∷ alone 2 8 0 ∷ alone 3 8 0 ∷ []) gives replicate 5 23) ∷
    (recoveries (alone 2 0 4000001 ∷ alone 3 0 4000001 ∷ []) gives 23 ∷ 23 ∷ []) ∷
    (outcome (logs (entry 1 127 4000001 1) (entry 2 7 4000000 1) (entry 3 7 4000000 1) []) gives 0 ∷ set zero_cells 127 4000001) ∷
    (recoveries (tab 4 (λ thread. with_entry (untouched zero_cells) thread 4 0 0 1)) gives replicate 4 23) ∷
    (outcome (logs [] [] (entry 1 5 1 1 ++ entry 1 128 1 2) []) gives 23 ∷ lent) ∷
    (outcome (with_entry tangled 3 4 0 0 1) gives 23 ∷ lent) ∷
    -- "Present entries of a thread: ranks from its head on, each found in its slot, up to the first missing one": others are neither tested
    -- nor taken. They stand before the head; behind an empty slot; in a slot and behind it, of another rank; also in the head's slot
    (outcome (with_head (logs [] (entry 4 7 1 1 ++ entry 1 8 2 2 ++ entry 1 9 3 3) [] []) 1 2) gives 0 ∷ set (set zero_cells 8 2) 9 3) ∷
    (outcome (logs [] (entry 1 7 1 1 ++ entry 0 0 0 0 ++ entry 4 8 2 3) [] []) gives 0 ∷ set zero_cells 7 1) ∷
    (outcome (logs [] (entry 1 7 1 1 ++ entry 4 8 2 66 ++ entry 4 9 3 3) [] []) gives 0 ∷ set zero_cells 7 1) ∷
    (outcome (logs [] (entry 1 7 1 65 ++ entry 1 8 2 2) [] []) gives 0 ∷ zero_cells) ∷
    -- "at most 64 and no rank over 1,000,000": a 65th would sit in the first one's slot; ranks 1,000,000 and 1,000,001 sit in slots 0 and 1
    (outcome full gives 0 ∷ tab 128 (λ cell. cell + 200)) ∷
    (outcome (with_head (with_entry (logs (entry 1 8 2 1000001) [] [] []) 0 1 7 1 1000000) 0 1000000) gives 0 ∷ set zero_cells 7 1) ∷
    (outcome (with_head (logs (entry 1 8 2 1000001) [] [] []) 0 1000001) gives 0 ∷ zero_cells) ∷
    -- "repeatedly takes the last remaining entry": the content before a log's first STORE stands
    (outcome (logs [] [] (entry 1 7 1 1 ++ entry 1 7 2 2) []) gives 0 ∷ set zero_cells 7 1) ∷
    -- "of the lowest thread whose last one may be taken": of two threads the higher one's content stands
    (outcome (logs (entry 1 7 1 1) (entry 1 7 2 1 ++ entry 1 8 3 2) (entry 1 8 4 1 ++ entry 1 9 5 2) (entry 1 9 6 1)) gives
    0 ∷ set (set (set zero_cells 7 2) 8 4) 9 6) ∷
    -- "A RELEASE with count k may be taken when no ACQUIRE of that lock with a larger count remains in any log": it waits for its own log's
    -- without end; for thread 3's until that is taken, and no longer; for none where there is none, or none that is present
    (outcome (logs (entry 2 0 1 1 ++ entry 3 0 0 2) (entry 1 7 1 1) [] []) gives 24 ∷ lent) ∷
    (outcome waits_for3 gives 0 ∷ set (set zero_cells 7 4) 8 2) ∷
    (outcome waits_for_none gives 0 ∷ set zero_cells 4 1) ∷
    (outcome (with_head (logs (entry 3 0 0 1) (entry 2 0 1 1) [] []) 1 2) gives 0 ∷ zero_cells) ∷
    -- "the other kinds always"
    (outcome (logs (entry 2 0 9 1 ++ entry 2 0 0 2 ++ entry 1 0 5 3) [] [] []) gives 0 ∷ set zero_cells 0 5) ∷ []

-- ---- cells that a list of entries undoes to

-- threads 0 and 1 each have one STORE of cell 5, with the contents 1 and 2
unfoldable pub foreign : List ℕ
foreign = logs (entry 1 5 1 1) (entry 1 5 2 1) [] []

-- its entries, the lower thread's first, and the higher one's
abbrev pub lower_first : List Name
lower_first = name 0 1 ∷ name 1 1 ∷ []

abbrev pub higher_first : List Name
higher_first = name 1 1 ∷ name 0 1 ∷ []

unfoldable pub order_rows : List Row
order_rows =
    -- "for others document 01's order decides" (document 02): it takes the lower thread first, and the other way ends in other cells
    (outcome foreign gives 0 ∷ set zero_cells 5 2) ∷
    (undone_in_order foreign lower_first gives set zero_cells 5 2) ∷
    (undone_in_order foreign higher_first gives set zero_cells 5 1) ∷
    -- "Recovery copies the kept cells", and "A STORE taken writes its value back": of the thread and the rank that are named, no other kind
    (undone_in_order (untouched numbered) [] gives numbered) ∷
    (undone_in_order (with_entry (untouched numbered) 2 1 8 6 65) (name 2 65 ∷ []) gives set numbered 8 6) ∷
    (undone_in_order (logs [] (entry 2 5 1 1 ++ entry 1 7 2 2 ++ entry 3 6 3 3) [] []) (name 1 3 ∷ name 1 2 ∷ name 1 1 ∷ []) gives
    set zero_cells 7 2) ∷ []

-- ---- claimed undo orders

-- what a list is answered for an image: the answer's number, and the place
unfoldable pub marks : List ℕ → List ℕ → List ℕ
marks image pairs =
    let checked = check_of image pairs in
    number_of checked.answer ∷ checked.place ∷ []

-- the same for each of some lists
unfoldable pub marks_each : List ℕ → List (List ℕ) → List ℕ
marks_each image lists = flatten (map (marks image) lists)

-- the largest word, 2^64 - 1
abbrev pub last_word : ℕ
last_word = 18446744073709551615

-- STOREs of thread 2, of ranks 1 to 3, and one of thread 3
unfoldable pub three_and_one : List ℕ
three_and_one = logs [] [] (entry 1 5 1 1 ++ entry 1 6 2 2 ++ entry 1 7 3 3) (entry 1 8 4 1)

-- a RELEASE of thread 0 that waits for the ACQUIREs of threads 1 and 2
unfoldable pub waits_for_two : List ℕ
waits_for_two = logs (entry 3 0 0 1) (entry 2 0 1 1) (entry 2 0 2 1) []

-- a RELEASE of thread 0 that waits for none of the others' ACQUIREs: of its lock with the same count, with a smaller one, and of another
-- lock with a larger one
unfoldable pub waits_for_no_other : List ℕ
waits_for_no_other = logs (entry 3 0 1 1) (entry 2 0 1 1) (entry 2 0 0 1) (entry 2 1 2 1)

-- `tangled` with a STORE behind thread 0's entries, and one of thread 2
unfoldable pub tangled_behind : List ℕ
tangled_behind = with_entry (with_entry tangled 0 1 5 1 3) 2 1 6 2 1

-- the 256 entries of `full`, thread by thread
unfoldable pub full_order : List ℕ
full_order = flatten (map (λ thread. flatten (tab 64 (λ index. thread ∷ (127 - index) ∷ []))) (3 ∷ 0 ∷ 2 ∷ 1 ∷ []))

-- threads 0 and 1 write cell 9 one after the other, each under lock 0, and its line is kept
unfoldable pub handed_on : List Step
handed_on = makes 0 4 ++ makes 1 5 ++ (FLUSH 0 1 ∷ FENCE 0 ∷ [])

-- "27: the list is not such an order"
unfoldable pub check_rows : List Row
check_rows =
    -- "It accepts exactly the lists that name each present entry once and keep L8's order", of "pairs, thread and rank, as words"; "an
    -- accepted one with 0". Document 01's order is one, and the other way is one too
    (marks foreign (0 ∷ 1 ∷ 1 ∷ 1 ∷ []) gives 0 ∷ 0 ∷ []) ∷
    (marks foreign (1 ∷ 1 ∷ 0 ∷ 1 ∷ []) gives 0 ∷ 0 ∷ []) ∷
    (map (λ pairs. value_of (check_of foreign pairs).answer) ((0 ∷ 1 ∷ 1 ∷ 1 ∷ []) ∷ [] ∷ []) gives 0 ∷ 0 ∷ []) ∷
    -- L8: "takes each thread's entries last to first", and another thread's anywhere among them
    (marks three_and_one (3 ∷ 1 ∷ 2 ∷ 3 ∷ 2 ∷ 2 ∷ 2 ∷ 1 ∷ []) gives 0 ∷ 0 ∷ []) ∷
    (marks three_and_one (2 ∷ 3 ∷ 3 ∷ 1 ∷ 2 ∷ 2 ∷ 2 ∷ 1 ∷ []) gives 0 ∷ 0 ∷ []) ∷
    (marks three_and_one (2 ∷ 3 ∷ 2 ∷ 2 ∷ 2 ∷ 1 ∷ 3 ∷ 1 ∷ []) gives 0 ∷ 0 ∷ []) ∷
    -- "or the count of pairs where entries are missing": all of them, one of a thread's, all of a thread's
    (marks three_and_one [] gives 27 ∷ 0 ∷ []) ∷
    (marks three_and_one (2 ∷ 3 ∷ 2 ∷ 2 ∷ 3 ∷ 1 ∷ []) gives 27 ∷ 3 ∷ []) ∷
    (marks three_and_one (2 ∷ 3 ∷ 2 ∷ 2 ∷ 2 ∷ 1 ∷ []) gives 27 ∷ 3 ∷ []) ∷
    -- "A pair is bad if, the pairs before it being taken, its entry isn't its thread's last remaining present one": first to last, the
    -- last two swapped, one passed over; doubled; when the thread has none left, or had none
    (marks three_and_one (2 ∷ 1 ∷ 2 ∷ 2 ∷ 2 ∷ 3 ∷ 3 ∷ 1 ∷ []) gives 27 ∷ 0 ∷ []) ∷
    (marks three_and_one (3 ∷ 1 ∷ 2 ∷ 3 ∷ 2 ∷ 1 ∷ 2 ∷ 2 ∷ []) gives 27 ∷ 2 ∷ []) ∷
    (marks three_and_one (2 ∷ 3 ∷ 2 ∷ 1 ∷ 3 ∷ 1 ∷ []) gives 27 ∷ 1 ∷ []) ∷
    (marks three_and_one (2 ∷ 3 ∷ 2 ∷ 2 ∷ 2 ∷ 2 ∷ 2 ∷ 1 ∷ 3 ∷ 1 ∷ []) gives 27 ∷ 2 ∷ []) ∷
    (marks three_and_one (2 ∷ 3 ∷ 2 ∷ 2 ∷ 2 ∷ 1 ∷ 3 ∷ 1 ∷ 2 ∷ 1 ∷ []) gives 27 ∷ 4 ∷ []) ∷
    (marks three_and_one (2 ∷ 3 ∷ 0 ∷ 1 ∷ 2 ∷ 2 ∷ 2 ∷ 1 ∷ 3 ∷ 1 ∷ []) gives 27 ∷ 1 ∷ []) ∷
    -- "its thread's last remaining present one": of other ranks the one before, the one after, the next of its slot, 0 and the largest
    -- word; of threads that there are not 4, two whose last bits are those of 2, and the largest word
    (marks_each three_and_one (map (λ rank. 2 ∷ 3 ∷ 2 ∷ rank ∷ []) (1 ∷ 3 ∷ 66 ∷ 0 ∷ last_word ∷ [])) gives
    flatten (replicate 5 (27 ∷ 1 ∷ []))) ∷
    (marks_each three_and_one (map (λ thread. 2 ∷ 3 ∷ thread ∷ 2 ∷ []) (4 ∷ 6 ∷ 4294967298 ∷ last_word ∷ [])) gives
    flatten (replicate 4 (27 ∷ 1 ∷ []))) ∷
    (marks three_and_one (last_word ∷ last_word ∷ []) gives 27 ∷ 0 ∷ []) ∷
    -- "the place, from 0, of its first bad pair": there are more, and entries are missing too
    (marks three_and_one (3 ∷ 1 ∷ 4 ∷ 1 ∷ 3 ∷ 1 ∷ 2 ∷ 9 ∷ []) gives 27 ∷ 1 ∷ []) ∷
    -- "each present entry": not one before its thread's head, nor one behind an empty slot
    (marks_each
    (with_head (logs [] (entry 4 7 1 1 ++ entry 1 8 2 2 ++ entry 1 9 3 3) [] []) 1 2)
    ((1 ∷ 3 ∷ 1 ∷ 2 ∷ []) ∷ (1 ∷ 3 ∷ 1 ∷ 2 ∷ 1 ∷ 1 ∷ []) ∷ (1 ∷ 2 ∷ []) ∷ []) gives
    0 ∷ 0 ∷ 27 ∷ 2 ∷ 27 ∷ 0 ∷ []) ∷
    (marks_each
    (logs [] (entry 1 7 1 1 ++ entry 0 0 0 0 ++ entry 1 8 2 3) [] [])
    ((1 ∷ 1 ∷ []) ∷ (1 ∷ 3 ∷ 1 ∷ 1 ∷ []) ∷ (1 ∷ 3 ∷ 1 ∷ 2 ∷ 1 ∷ 1 ∷ []) ∷ []) gives
    0 ∷ 0 ∷ 27 ∷ 0 ∷ 27 ∷ 0 ∷ []) ∷
    -- "each present entry once": with nothing present the list without a pair is an order, and no other list
    (marks_each (untouched numbered) ([] ∷ (0 ∷ 1 ∷ []) ∷ (3 ∷ 0 ∷ []) ∷ []) gives 0 ∷ 0 ∷ 27 ∷ 0 ∷ 27 ∷ 0 ∷ []) ∷
    -- "or is a RELEASE that may not be taken yet": an ACQUIRE "of that lock with a larger count" remains in another log, as its last one
    -- or not
    (marks_each waits_for3 ((0 ∷ 3 ∷ []) ∷ (3 ∷ 3 ∷ 0 ∷ 3 ∷ []) ∷ []) gives 27 ∷ 0 ∷ 27 ∷ 1 ∷ []) ∷
    (marks waits_for3 (3 ∷ 3 ∷ 3 ∷ 2 ∷ 0 ∷ 3 ∷ 0 ∷ 2 ∷ 3 ∷ 1 ∷ 0 ∷ 1 ∷ []) gives 0 ∷ 0 ∷ []) ∷
    -- L8: "each RELEASE after every ACQUIRE of that lock with a larger count"
    (marks_each waits_for_two ((1 ∷ 1 ∷ 0 ∷ 1 ∷ []) ∷ (2 ∷ 1 ∷ 0 ∷ 1 ∷ []) ∷ []) gives 27 ∷ 1 ∷ 27 ∷ 1 ∷ []) ∷
    (marks_each waits_for_two ((1 ∷ 1 ∷ 2 ∷ 1 ∷ 0 ∷ 1 ∷ []) ∷ (2 ∷ 1 ∷ 1 ∷ 1 ∷ 0 ∷ 1 ∷ []) ∷ []) gives replicate 4 0) ∷
    -- document 01: "no ACQUIRE of that lock with a larger count remains in any log", its own too: this one may never be taken
    (marks_each
    (logs (entry 2 0 1 1 ++ entry 3 0 0 2) (entry 1 7 1 1) [] [])
    ((0 ∷ 2 ∷ 0 ∷ 1 ∷ 1 ∷ 1 ∷ []) ∷ (1 ∷ 1 ∷ 0 ∷ 2 ∷ 0 ∷ 1 ∷ []) ∷ []) gives
    27 ∷ 0 ∷ 27 ∷ 1 ∷ []) ∷
    -- "of that lock with a larger count": not one with the same count or a smaller one, nor of another lock, in another log or its own;
    -- and not one that is not present
    (marks waits_for_no_other (0 ∷ 1 ∷ 1 ∷ 1 ∷ 2 ∷ 1 ∷ 3 ∷ 1 ∷ []) gives 0 ∷ 0 ∷ []) ∷
    (marks waits_for_none (3 ∷ 3 ∷ 2 ∷ 2 ∷ 1 ∷ 2 ∷ 0 ∷ 2 ∷ 3 ∷ 2 ∷ 3 ∷ 1 ∷ 2 ∷ 1 ∷ 1 ∷ 1 ∷ 0 ∷ 1 ∷ []) gives 0 ∷ 0 ∷ []) ∷
    (marks (with_head (logs (entry 3 0 0 1) (entry 2 0 1 1) [] []) 1 2) (0 ∷ 1 ∷ []) gives 0 ∷ 0 ∷ []) ∷
    -- "by recovery's refusals 21 to 23", and not by 24: such an image has no order: every list is 27 that
    -- 26 lets pass
    (marks_each tangled ([] ∷ (0 ∷ 2 ∷ 0 ∷ 1 ∷ 1 ∷ 2 ∷ 1 ∷ 1 ∷ []) ∷ (1 ∷ 2 ∷ []) ∷ []) gives 27 ∷ 0 ∷ 27 ∷ 0 ∷ 27 ∷ 0 ∷ []) ∷
    (recoveries (tangled_behind ∷ []) gives 24 ∷ []) ∷
    (marks_each tangled_behind ((2 ∷ 1 ∷ 0 ∷ 3 ∷ []) ∷ (0 ∷ 3 ∷ 2 ∷ 1 ∷ 0 ∷ 2 ∷ 0 ∷ 1 ∷ []) ∷ (0 ∷ 3 ∷ 2 ∷ 1 ∷ 1 ∷ 2 ∷ []) ∷ []) gives
    flatten (replicate 3 (27 ∷ 2 ∷ []))) ∷
    -- "The image is tested first, by recovery's refusals 21 to 23", in this order, whatever the list: also where 26 or 27 would follow
    (marks_each (0 ∷ untouched zero_cells) ([] ∷ (0 ∷ []) ∷ replicate 514 0 ∷ []) gives 21 ∷ 0 ∷ 21 ∷ 0 ∷ 21 ∷ 0 ∷ []) ∷
    (marks_each (take 1155 (with_head foreign 0 0)) ([] ∷ (0 ∷ []) ∷ (0 ∷ 1 ∷ []) ∷ []) gives 21 ∷ 0 ∷ 21 ∷ 0 ∷ 21 ∷ 0 ∷ []) ∷
    (marks_each (with_head (alone 4 0 0) 0 1000002) ([] ∷ (0 ∷ []) ∷ (0 ∷ 1 ∷ []) ∷ []) gives 22 ∷ 0 ∷ 22 ∷ 0 ∷ 22 ∷ 0 ∷ []) ∷
    (marks_each (alone 4 0 0) ([] ∷ (0 ∷ []) ∷ (3 ∷ 1 ∷ []) ∷ []) gives 23 ∷ 0 ∷ 23 ∷ 0 ∷ 23 ∷ 0 ∷ []) ∷
    (marks_each (with_entry tangled 3 2 0 4000001 1) ([] ∷ (0 ∷ []) ∷ (0 ∷ 2 ∷ []) ∷ []) gives 23 ∷ 0 ∷ 23 ∷ 0 ∷ 23 ∷ 0 ∷ []) ∷
    -- "26: over 512 words or an odd number, tested next", whatever the words say: also where 27 would follow
    (marks_each foreign ((0 ∷ []) ∷ (0 ∷ 1 ∷ 1 ∷ 1 ∷ 2 ∷ []) ∷ (0 ∷ 2 ∷ 9 ∷ []) ∷ []) gives 26 ∷ 0 ∷ 26 ∷ 0 ∷ 26 ∷ 0 ∷ []) ∷
    (marks_each foreign (map (λ count. replicate count 0) (511 ∷ 512 ∷ 513 ∷ 514 ∷ [])) gives 26 ∷ 0 ∷ 27 ∷ 0 ∷ 26 ∷ 0 ∷ 26 ∷ 0 ∷ []) ∷
    (marks_each tangled ((0 ∷ []) ∷ replicate 514 0 ∷ []) gives 26 ∷ 0 ∷ 26 ∷ 0 ∷ []) ∷
    -- "at most 256 pairs", as many as four full logs have
    (marks full full_order gives 0 ∷ 0 ∷ []) ∷
    (marks full (take 510 full_order) gives 27 ∷ 255 ∷ []) ∷
    (marks full (full_order ++ (1 ∷ 64 ∷ [])) gives 26 ∷ 0 ∷ []) ∷
    -- "An accepted one for a machine's image undoes to the cells that recovery gives." Thread 0's RELEASE waits for thread 1's ACQUIRE;
    -- the entries of a pruned region are no longer present; without a lock two threads' entries are taken in any order
    (marks (image_of (ran handed_on)) (1 ∷ 3 ∷ 1 ∷ 2 ∷ 1 ∷ 1 ∷ 0 ∷ 3 ∷ 0 ∷ 2 ∷ 0 ∷ 1 ∷ []) gives 0 ∷ 0 ∷ []) ∷
    (undone_in_order (image_of (ran handed_on)) (pairs_of (1 ∷ 3 ∷ 1 ∷ 2 ∷ 1 ∷ 1 ∷ 0 ∷ 3 ∷ 0 ∷ 2 ∷ 0 ∷ 1 ∷ [])) gives numbered) ∷
    (marks_each (image_of (ran handed_on)) ((0 ∷ 3 ∷ []) ∷ (1 ∷ 3 ∷ 1 ∷ 2 ∷ 0 ∷ 3 ∷ []) ∷ []) gives 27 ∷ 0 ∷ 27 ∷ 2 ∷ []) ∷
    (marks_each
    (image_of (ran (handed_on ++ (PRUNE 0 ∷ []))))
    ((1 ∷ 3 ∷ 1 ∷ 2 ∷ 1 ∷ 1 ∷ []) ∷ (1 ∷ 3 ∷ 1 ∷ 2 ∷ 1 ∷ 1 ∷ 0 ∷ 3 ∷ []) ∷ []) gives
    0 ∷ 0 ∷ 27 ∷ 3 ∷ []) ∷
    (marks_each
    (image_of (ran (LOG 0 5 ∷ LOG 1 9 ∷ FLUSHLOG 0 ∷ FLUSHLOG 1 ∷ FENCE 0 ∷ FENCE 1 ∷ [])))
    ((0 ∷ 1 ∷ 1 ∷ 1 ∷ []) ∷ (1 ∷ 1 ∷ 0 ∷ 1 ∷ []) ∷ []) gives
    replicate 4 0) ∷
    -- L5: "An entry is present only when its rank word is"
    (marks_each (image_of (ran (LOG 0 5 ∷ EVICTWORDS 0 1 3 ∷ []))) ([] ∷ (0 ∷ 1 ∷ []) ∷ []) gives 0 ∷ 0 ∷ 27 ∷ 0 ∷ []) ∷
    (marks_each (image_of (ran (LOG 0 5 ∷ EVICTWORDS 0 1 4 ∷ []))) ([] ∷ (0 ∷ 1 ∷ []) ∷ []) gives 27 ∷ 0 ∷ 0 ∷ 0 ∷ []) ∷ []

-- ---- threads, locks and lines that are not the lowest: a rule that looks at the lowest one only is wrong

-- a thread's region without a cell, from ACQUIRE to RELEASE
unfoldable pub holds : ℕ → ℕ → List Step
holds thread lock = ACQUIRE thread lock ∷ LOGREL thread lock ∷ FLUSHLOG thread ∷ FENCE thread ∷ RELEASE thread lock ∷ []

-- thread 3 logs cell 9 under lock 5 and passes the lock to thread 1; cell 10 it logs after the RELEASE
unfoldable pub passes5 : List Step
passes5 =
    ACQUIRE 3 5 ∷ LOG 3 9 ∷ LOGREL 3 5 ∷ FLUSHLOG 3 ∷ FENCE 3 ∷ RELEASE 3 5 ∷ LOG 3 10 ∷ ACQUIRE 1 5 ∷ []

unfoldable pub other_rows : List Row
other_rows =
    -- 16: "of that lock", not of lock 0
    (takes (ran (holds 0 6 ++ holds 1 6 ++ holds 2 0)) (PRUNE 2 ∷ PRUNE 1 ∷ PRUNE 0 ∷ PRUNE 1 ∷ []) gives 0 ∷ 16 ∷ 0 ∷ 0 ∷ []) ∷
    -- 8: thread 3's accesses, in order by lock 5 for thread 1 and for no other
    (asks (ran passes5) (LOAD 1 9 ∷ LOG 1 9 ∷ LOAD 1 10 ∷ LOG 1 10 ∷ LOAD 0 9 ∷ LOG 0 9 ∷ []) gives 0 ∷ 0 ∷ 8 ∷ 8 ∷ 8 ∷ 8 ∷ []) ∷
    -- a FENCE of another thread completes no flush
    (keeps (FLUSH 0 1 ∷ FENCE 1 ∷ FENCE 2 ∷ FENCE 3 ∷ []) gives 107 ∷ 108 ∷ 115 ∷ 116 ∷ []) ∷
    -- 17: cell 127's line is line 15
    (asks (ran (logs127 ++ (STORE 3 127 1 ∷ ACQUIRE 3 0 ∷ FLUSH 3 15 ∷ FENCE 3 ∷ []))) (PRUNE 3 ∷ []) gives 0 ∷ []) ∷
    -- after thread 0's FENCE the flush of line 1 that thread 1 has pending is still there
    (map (λ mark. cond mark 1 0) (ran (FLUSH 0 1 ∷ FLUSH 1 1 ∷ FENCE 0 ∷ [])).cache.pending gives set (replicate 64 0) 17 1) ∷ []

-- ---- the table

unfoldable pub edges : List Row
edges =
    input_rows ++
    state_rows ++
    prune_rows ++
    room_rows ++
    again_rows ++
    given_rows ++ many_rows ++ kept_rows ++ line_rows ++ fence_rows ++ image_rows ++ recovery_rows ++ order_rows ++ check_rows ++ other_rows

-- what document 01 asks at its edges is what the definitions give
abbrev pub Edges : Type 0
Edges = map found_of edges ≡ map asked_of edges
