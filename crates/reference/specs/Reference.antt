-- Document 01's plain book: what demand 3 compares recovery with. It is fed each step's four fields and whether it was accepted.
use Rattle.std.specs.Prelude.{ℕ, suc, Bool, true, false, cond, not, ◌&&◌, ◌||◌, List, [], ◌∷◌, ◌++◌, map, length, get_or, set, eqb, Option}
use Rattle.std.specs.Prelude.{None, Some}

-- "A region belongs to a thread, is open or ended, and is committed or not."
pub record Region : Type 0 where
  pub thread : ℕ
  pub is_open : Bool
  pub is_committed : Bool

-- a store's cell and value, "under that region": the region's place in the list of regions
pub record Write : Type 0 where
  pub cell : ℕ
  pub value : ℕ
  pub region : ℕ

-- the start cells, the regions in the order of their opening, and "one list for all threads" of the stores
pub record Book : Type 0 where
  pub start : List ℕ
  pub regions : List Region
  pub writes : List Write

-- "It starts with the start cells, no regions and no stores."
abbrev pub empty_book : List ℕ → Book
empty_book cells = record { start = cells; regions = []; writes = [] }

-- the region is open, and the thread's
abbrev pub is_open_of : ℕ → Region → Bool
is_open_of thread region = eqb region.thread thread && region.is_open

-- the place of the thread's open region, counted from this number on
unfoldable pub open_from : ℕ → List Region → ℕ → Option ℕ
open_from thread [] place = None
open_from thread (region ∷ regions) place =
    cond (is_open_of thread region) (Some place) (open_from thread regions (suc place))

-- the thread's open region, if any
unfoldable pub open_of : Book → ℕ → Option ℕ
open_of book thread = open_from thread book.regions 0

abbrev pub with_regions : Book → List Region → Book
with_regions book regions = record { start = book.start; regions = regions; writes = book.writes }

-- a region more, open, for the thread
abbrev pub open_another : Book → ℕ → Book
open_another book thread =
    with_regions book (book.regions ++ (record { thread = thread; is_open = true; is_committed = false } ∷ []))

-- "opens a region for its thread if none is open"
abbrev pub open_unless : Option ℕ → Book → ℕ → Book
open_unless None book thread = open_another book thread
open_unless (Some place) book thread = book

-- the open region of the thread is ended
abbrev pub end_of : ℕ → Region → Region
end_of thread region = record {
  thread = region.thread;
  is_open = cond (is_open_of thread region) false region.is_open;
  is_committed = region.is_committed;
}

abbrev pub end_open : Book → ℕ → Book
end_open book thread = with_regions book (map (end_of thread) book.regions)

-- the thread's oldest uncommitted region is committed
unfoldable pub commit_oldest : ℕ → List Region → List Region
commit_oldest thread [] = []
commit_oldest thread (region ∷ regions) =
    cond (eqb region.thread thread && not region.is_committed)
    (record { thread = region.thread; is_open = region.is_open; is_committed = true } ∷ regions)
    (region ∷ commit_oldest thread regions)

-- the store goes to the end of the list, under the open region
abbrev pub write : Option ℕ → Book → ℕ → ℕ → Book
write None book cell value = book
write (Some place) book cell value = record {
  start = book.start;
  regions = book.regions;
  writes = book.writes ++ (record { cell = cell; value = value; region = place } ∷ []);
}

-- "LOG opens a region for its thread if none is open, and joins the open one."
abbrev pub feed_log : Book → ℕ → Book
feed_log book thread = open_unless (open_of book thread) book thread

-- "STORE joins the open one; its cell and value go to the end of one list for all threads, under that region."
abbrev pub feed_store : Book → ℕ → ℕ → ℕ → Book
feed_store book thread cell value = write (open_of book thread) book cell value

-- "ACQUIRE ends the open one, if any, opens another and joins it."
abbrev pub feed_acquire : Book → ℕ → Book
feed_acquire book thread = open_another (end_open book thread) thread

-- "LOGREL opens one if none is open, joins it and ends it."
abbrev pub feed_log_release : Book → ℕ → Book
feed_log_release book thread = end_open (open_unless (open_of book thread) book thread) thread

-- "PRUNE commits its thread's oldest uncommitted region."
abbrev pub feed_prune : Book → ℕ → Book
feed_prune book thread = with_regions book (commit_oldest thread book.regions)

-- an accepted step: 2 LOG, 3 STORE, 4 ACQUIRE, 5 LOGREL, 10 PRUNE. "Other kinds change nothing".
unfoldable pub feed_accepted : Book → ℕ → ℕ → ℕ → ℕ → Book
feed_accepted book kind thread place value =
    cond (eqb kind 2) (feed_log book thread)
    (cond (eqb kind 3) (feed_store book thread place value)
    (cond (eqb kind 4) (feed_acquire book thread)
    (cond (eqb kind 5) (feed_log_release book thread) (cond (eqb kind 10) (feed_prune book thread) book))))

-- "A refused step changes nothing."
unfoldable pub feed : Book → ℕ → ℕ → ℕ → ℕ → Bool → Book
feed book kind thread place value is_accepted = cond is_accepted (feed_accepted book kind thread place value) book

-- the place of the region that an accepted step joins, if it joins one: LOG, STORE and LOGREL the open one, which LOG and LOGREL may
-- have opened, and ACQUIRE the one that it opens
abbrev pub join_opened : Option ℕ → Book → Option ℕ
join_opened None book = Some (length book.regions)
join_opened (Some place) book = Some place

unfoldable pub joins : Book → ℕ → ℕ → Option ℕ
joins book kind thread =
    cond (eqb kind 2 || eqb kind 5) (join_opened (open_of book thread) book)
    (cond (eqb kind 3) (open_of book thread) (cond (eqb kind 4) (Some (length book.regions)) None))

-- the region at this place is committed
abbrev pub is_committed_at : List Region → ℕ → Bool
is_committed_at regions place =
    (get_or regions place (record { thread = 0; is_open = false; is_committed = false })).is_committed

-- "written in the list's order with the stores under committed regions only"
unfoldable pub written : List Region → List ℕ → List Write → List ℕ
written regions cells [] = cells
written regions cells (store ∷ stores) =
    written
    regions
    (cond (is_committed_at regions store.region) (set cells store.cell store.value) cells)
    stores

-- the book's cells
unfoldable pub cells_of : Book → List ℕ
cells_of book = written book.regions book.start book.writes
