-- Document 01's corner points P1 to P11 as one table, and document 02's torn cells and entries: what the definitions give, beside what
-- the documents ask.
use Rattle.std.specs.Prelude.{ℕ, ◌+◌, ◌*◌, List, [], ◌∷◌, ◌++◌, map, get_or, set, take, drop, replicate}
use Rattle.std.proofs.lemmas.List.Edits.{sets}
use Rattle.sizes.specs.Sizes.{entry_words}
use Rattle.answer.specs.Answer.{number_of, value_of}
use Rattle.answer.specs.Lists.{tab}
use Rattle.answer.specs.Refusals.{Outcome}
use Rattle.cache.specs.Cache.{cell_count}
use Rattle.ring.specs.Ring.{slot_of}
use Rattle.reader.specs.Stretch.{image_words, heads_at, stretch_at}
use Rattle.machine.specs.Image.{image_of}
use Rattle.machine.specs.Runs.{Step, answers, evict_steps}
use Rattle.recovery.specs.Recover.{recover_of}
use Rattle.atomicity.specs.History.{start_machine, machine_after}

-- a step by its four numbers
abbrev pub step : ℕ → ℕ → ℕ → ℕ → Step
step kind thread place value = record { kind = kind; thread = thread; place = place; value = value }

abbrev pub LOAD : ℕ → ℕ → Step
LOAD thread cell = step 1 thread cell 0

abbrev pub LOG : ℕ → ℕ → Step
LOG thread cell = step 2 thread cell 0

abbrev pub STORE : ℕ → ℕ → ℕ → Step
STORE thread cell value = step 3 thread cell value

abbrev pub ACQUIRE : ℕ → ℕ → Step
ACQUIRE thread lock = step 4 thread lock 0

abbrev pub LOGREL : ℕ → ℕ → Step
LOGREL thread lock = step 5 thread lock 0

abbrev pub RELEASE : ℕ → ℕ → Step
RELEASE thread lock = step 6 thread lock 0

abbrev pub FLUSH : ℕ → ℕ → Step
FLUSH thread line = step 7 thread line 0

abbrev pub FLUSHLOG : ℕ → Step
FLUSHLOG thread = step 8 thread 0 0

abbrev pub FENCE : ℕ → Step
FENCE thread = step 9 thread 0 0

abbrev pub PRUNE : ℕ → Step
PRUNE thread = step 10 thread 0 0

-- the eviction of a line: P4 and P8 "use the eight as well" (document 02)
abbrev pub EVICT : ℕ → List Step
EVICT line = evict_steps line

abbrev pub EVICTLOG : ℕ → ℕ → Step
EVICTLOG thread slot = step 12 thread slot 0

abbrev pub EVICTCELL : ℕ → Step
EVICTCELL cell = step 13 0 cell 0

abbrev pub EVICTWORDS : ℕ → ℕ → ℕ → Step
EVICTWORDS thread slot count = step 14 thread slot count

-- start cells that all differ, and from 0: cell c holds c + 100
unfoldable pub numbered : List ℕ
numbered = tab cell_count (λ cell. cell + 100)

-- the buffer that recovery is lent, of words that no cell holds
unfoldable pub lent : List ℕ
lent = replicate cell_count 99

-- the numbers of the answers of steps from a start
unfoldable pub answered : List ℕ → List Step → List ℕ
answered words steps = map number_of (answers (start_machine words) steps)

-- the number and value of the answer of one more step
unfoldable pub last_answered : List ℕ → List Step → Step → List ℕ
last_answered words steps last =
    map number_of (answers (machine_after words steps) (last ∷ [])) ++ map value_of (answers (machine_after words steps) (last ∷ []))

-- the answer's number and the words of the buffer
abbrev pub leaves : Outcome → List ℕ
leaves found = number_of found.answer ∷ found.buffer

-- the answer's number and the words of the lent buffer, after a recovery of an image
unfoldable pub outcome : List ℕ → List ℕ
outcome image = leaves (recover_of image lent)

-- the answer's number and the words of the lent buffer, after a recovery of the image of a cut
unfoldable pub recovered : List ℕ → List Step → List ℕ
recovered words steps = outcome (image_of (machine_after words steps))

-- what the image of a cut has for a cell
unfoldable pub imaged : List ℕ → List Step → ℕ → List ℕ
imaged words steps cell = get_or (image_of (machine_after words steps)) cell 0 ∷ []

-- the words that the image of a cut has for a thread's slot
unfoldable pub slot_imaged : List ℕ → List Step → ℕ → ℕ → List ℕ
slot_imaged words steps thread slot =
    take entry_words (drop (stretch_at thread + slot * entry_words) (image_of (machine_after words steps)))

-- an image of cells 0, with heads 1 and empty logs
unfoldable pub empty_image : List ℕ
empty_image = sets (replicate image_words 0) heads_at (1 ∷ 1 ∷ 1 ∷ 1 ∷ [])

-- the image with an entry more: kind, place, value, rank
unfoldable pub with_entry : List ℕ → ℕ → ℕ → ℕ → ℕ → ℕ → List ℕ
with_entry image thread kind place value rank =
    sets image (stretch_at thread + slot_of rank * entry_words) (kind ∷ place ∷ value ∷ rank ∷ [])

-- LOG of cell 5, made firm
unfoldable pub logged5 : List Step
logged5 = LOG 0 5 ∷ FLUSHLOG 0 ∷ FENCE 0 ∷ []

-- the thread writes cell 9 under lock 0: each entry is flushed and fenced before the STORE, or the RELEASE, that needs it
unfoldable pub makes : ℕ → ℕ → List Step
makes thread value =
    ACQUIRE thread 0 ∷
    LOG thread 9 ∷
    FLUSHLOG thread ∷
    FENCE thread ∷
    STORE thread 9 value ∷ LOGREL thread 0 ∷ FLUSHLOG thread ∷ FENCE thread ∷ RELEASE thread 0 ∷ []

-- "cell 9 is 3; thread 0 makes it 4, then thread 1 makes it 5, each under lock 0, released"
unfoldable pub nine : List ℕ
nine = set numbered 9 3

unfoldable pub both : List Step
both = makes 0 4 ++ makes 1 5

-- P10's image, and one in which the slot of thread 0's head holds an older entry of a good kind
unfoldable pub tangled : List ℕ
tangled = with_entry (with_entry (with_entry (with_entry empty_image 0 2 0 1 1) 0 3 1 0 2) 1 2 1 1 1) 1 3 0 0 2

unfoldable pub stale : List ℕ
stale = with_entry (set empty_image heads_at 65) 0 1 7 1 1

-- thread 0's LOG of cell 9 has rank 1 and is pruned; the next 63 entries are firm; an ACQUIRE of lock 3 has rank 65, in the same slot
unfoldable pub over_pruned : List Step
over_pruned =
    (LOG 0 9 ∷ ACQUIRE 0 6 ∷ FLUSHLOG 0 ∷ FENCE 0 ∷ PRUNE 0 ∷ []) ++
    tab 62 (λ cell. LOG 0 cell) ++ (FLUSHLOG 0 ∷ FENCE 0 ∷ ACQUIRE 0 3 ∷ [])

infix 10 ◌gives◌
-- what the definitions give, and what the documents ask
pub data Row : Type 0 where
  ◌gives◌ : List ℕ → List ℕ → Row

abbrev pub found_of : Row → List ℕ
found_of (found gives asked) = found

abbrev pub asked_of : Row → List ℕ
asked_of (found gives asked) = asked

-- the rows; those behind P11 would notice a slip that "Where candidates and coders stumble" names
unfoldable pub table : List Row
table =
    -- P1 cut at the start: start cells
    (recovered numbered [] gives 0 ∷ numbered) ∷
    -- P2 STORE, no LOG: 10
    (answered numbered (STORE 0 5 7 ∷ []) gives 10 ∷ []) ∷
    -- P3 LOG, STORE: 11
    (answered numbered (LOG 0 5 ∷ STORE 0 5 7 ∷ []) gives 0 ∷ 11 ∷ []) ∷
    -- P4 the line was evicted with the new content, and recovery finds the old one
    (imaged numbered (logged5 ++ (STORE 0 5 7 ∷ EVICT 0)) 5 gives 7 ∷ []) ∷
    (recovered numbered (logged5 ++ (STORE 0 5 7 ∷ EVICT 0)) gives 0 ∷ numbered) ∷
    -- P5 the STORE took the flush away: the image has the old content
    (imaged numbered (logged5 ++ (FLUSH 0 0 ∷ STORE 0 5 7 ∷ FENCE 0 ∷ [])) 5 gives 105 ∷ []) ∷
    -- P6 threads 0 and 1 LOG cell 9, no lock: 8
    (answered numbered (LOG 0 9 ∷ LOG 1 9 ∷ []) gives 0 ∷ 8 ∷ []) ∷
    -- P7 all steps are accepted, then PRUNE 1 first: 16
    (answered nine (both ++ (PRUNE 1 ∷ [])) gives replicate 18 0 ++ (16 ∷ [])) ∷
    -- P8 none pruned, line evicted: recovers 3
    (imaged nine (both ++ EVICT 1) 9 gives 5 ∷ []) ∷
    (recovered nine (both ++ EVICT 1) gives 0 ∷ nine) ∷
    -- P9 lines flushed and fenced, thread 0 pruned: 4
    (last_answered nine (both ++ (FLUSH 0 1 ∷ FENCE 0 ∷ [])) (PRUNE 0) gives 0 ∷ 3 ∷ []) ∷
    (recovered nine (both ++ (FLUSH 0 1 ∷ FENCE 0 ∷ PRUNE 0 ∷ [])) gives 0 ∷ set nine 9 4) ∷
    -- P10 24, and P11 an image of 1,155 words: 21; the lent buffer is as it was
    (outcome tangled gives 24 ∷ lent) ∷
    (outcome (take 1155 empty_image) gives 21 ∷ lent) ∷
    -- an evicted line is not durable, nor is a flushed one before its fence: PRUNE 17
    (last_answered nine (makes 0 4 ++ EVICT 1) (PRUNE 0) gives 17 ∷ 0 ∷ []) ∷
    (last_answered nine (makes 0 4 ++ (FLUSH 0 1 ∷ [])) (PRUNE 0) gives 17 ∷ 0 ∷ []) ∷
    -- a flushed entry is not durable before its fence: STORE 11
    (answered numbered (LOG 0 5 ∷ FLUSHLOG 0 ∷ STORE 0 5 7 ∷ []) gives 0 ∷ 0 ∷ 11 ∷ []) ∷
    -- an older entry in the head's slot is not present
    (outcome stale gives 0 ∷ replicate cell_count 0) ∷
    -- P4 with the cell evicted alone, by EVICTCELL
    (imaged numbered (logged5 ++ (STORE 0 5 7 ∷ EVICTCELL 5 ∷ [])) 5 gives 7 ∷ []) ∷
    (recovered numbered (logged5 ++ (STORE 0 5 7 ∷ EVICTCELL 5 ∷ [])) gives 0 ∷ numbered) ∷
    -- an evicted cell is not durable: PRUNE 17; nor is an entry of which all words were evicted: STORE 11
    (last_answered nine (makes 0 4 ++ (EVICTCELL 9 ∷ [])) (PRUNE 0) gives 17 ∷ 0 ∷ []) ∷
    (answered numbered (LOG 0 5 ∷ EVICTWORDS 0 1 4 ∷ STORE 0 5 7 ∷ []) gives 0 ∷ 0 ∷ 11 ∷ []) ∷
    -- three words of an entry: the rank word is 0, and the entry is not present
    (slot_imaged numbered (LOG 0 5 ∷ EVICTWORDS 0 1 3 ∷ []) 0 1 gives 1 ∷ 5 ∷ 105 ∷ 0 ∷ []) ∷
    (recovered numbered (LOG 0 5 ∷ EVICTWORDS 0 1 3 ∷ []) gives 0 ∷ numbered) ∷
    -- three words of an entry over a pruned one: they stand under the old rank word, and the entry is not present
    (slot_imaged numbered (over_pruned ++ (EVICTWORDS 0 1 3 ∷ [])) 0 1 gives 2 ∷ 3 ∷ 0 ∷ 1 ∷ []) ∷
    (recovered numbered (over_pruned ++ (EVICTWORDS 0 1 3 ∷ [])) gives 0 ∷ numbered) ∷
    -- EVICTWORDS tests 19 before 18, and 3 before 19
    (answered numbered (EVICTWORDS 0 1 5 ∷ EVICTWORDS 0 1 4 ∷ EVICTWORDS 0 64 5 ∷ []) gives 19 ∷ 18 ∷ 3 ∷ []) ∷ []
