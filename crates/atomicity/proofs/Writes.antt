-- The plain book's stores and the cells' versions: written under committed regions only, each cell holds what its pruned versions left.
use Prim.Native.Nat.{ℕ, ◌<◌}
use native.Mathlib.Decide.{dec_lt, ℕ_discrete}
use native.Mathlib.Omega.{arith}
use mathlib.Core.Path.{◌≡◌, refl, sym, ap, ◌∙◌, subst}
use mathlib.Core.List.{List, [], ◌∷◌, ◌++◌}
use mathlib.Core.Logic.{by_cases}
use lib.Dec.{ltb}
use lib.ListN.{length, get_or}
use borrow.Author.Tests.{lt-ltb, le-ltb}
use Rattle.reference.specs.Reference.{Region, Write, Book, is_committed_at, written, cells_of}
use Rattle.atomicity.proofs.Logged.{Entries, Made}
use Rattle.atomicity.proofs.Locks.{Locks, PrunesHold}
use Rattle.atomicity.proofs.Leads.{leads_pruned}
use Rattle.atomicity.proofs.Cells.{Version, latest, NewestLeads, none-older, leads-to, Chain, unlogged, linked, In, here, there}
use Rattle.atomicity.proofs.Cells.{Newest, newest, restored, Contents, CellsHold, LogsCell, StoresCell}
use Rattle.atomicity.proofs.OldestLive.{pruned_value}
use Rattle.atomicity.proofs.BookLaws.{written_committed, written_uncommitted, written-other, written_length}
use Rattle.atomicity.proofs.Regions.{RegionsHold}

-- a cell's versions and the stores of all threads: an entry of the cell is a version, a STORE to it stands under the newest version's
-- region and is what that version leaves, and a store to another cell is nothing to it
pub data Tracks (home : ℕ → ℕ → ℕ) (start cell : ℕ) : List Version → List Write → Type 0 where
  nothing : Tracks home start cell [] []
  logged : {versions : List Version} {stores : List Write} (thread number : ℕ) →
      Tracks home start cell versions stores →
      Tracks home start cell (record { thread = thread; lsn = number; after = latest start versions } ∷ versions) stores
  stored : {version : Version} {older : List Version} {stores : List Write} (value : ℕ) →
      Tracks home start cell (version ∷ older) stores →
      Tracks home start cell (restored value (version ∷ older))
      (stores ++ (record { cell = cell; value = value; region = home version.thread version.lsn } ∷ []))
  elsewhere : {versions : List Version} {stores : List Write} (store : Write) → (store.cell ≡ cell → ⊥) →
      Tracks home start cell versions stores → Tracks home start cell versions (stores ++ (store ∷ []))

-- the newest version, if there is one, is pruned
pub data NewestPruned (entries : Entries) : List Version → Type 0 where
  no-version : NewestPruned entries []
  is-pruned : {version : Version} {older : List Version} → version.lsn < entries.head version.thread →
      NewestPruned entries (version ∷ older)

-- each version's region is committed when the version is pruned, and below a pruned version the next one is pruned
pub data Settled (entries : Entries) (regions : List Region) (home : ℕ → ℕ → ℕ) : List Version → Type 0 where
  at-bottom : Settled entries regions home []
  above : {version : Version} {older : List Version} →
      is_committed_at regions (home version.thread version.lsn) ≡ ltb version.lsn (entries.head version.thread) →
      (version.lsn < entries.head version.thread → NewestPruned entries older) →
      Settled entries regions home older → Settled entries regions home (version ∷ older)

newest_pruned : {entries : Entries} {locks : Locks} {thread number : ℕ} {versions : List Version} →
    PrunesHold entries locks → NewestLeads entries thread number versions → number < entries.head thread →
    NewestPruned entries versions
newest_pruned prunes none-older pruned = no-version
newest_pruned prunes (leads-to leads) pruned = is-pruned (leads_pruned prunes leads pruned)

-- of a cell's versions, each one's region is committed when it is pruned, and below a pruned one the next one is pruned
pub settled : {entries : Entries} {locks : Locks} {regions : List Region} {home : ℕ → ℕ → ℕ} {start cell : ℕ} {versions : List Version} →
    PrunesHold entries locks → RegionsHold entries regions home → Chain entries start cell versions →
    Settled entries regions home versions
settled prunes holds unlogged = at-bottom
settled prunes holds (linked link chain) =
    above (holds.committed link.says.made) (newest_pruned prunes link.ordered) (settled prunes holds chain)

-- the pruned content is the latest one where the newest version is pruned
newest_value : {entries : Entries} {versions : List Version} (start : ℕ) → NewestPruned entries versions →
    latest start versions ≡ pruned_value entries start versions
newest_value start no-version = refl
newest_value start (is-pruned pruned) = rw (lt-ltb _ _ pruned)

-- the book's cell is what the pruned versions left
pub written_pruned : {entries : Entries} {home : ℕ → ℕ → ℕ} (regions : List Region) (cells : List ℕ) (cell : ℕ)
    {versions : List Version} {stores : List Write} →
    cell < length cells → Tracks home (get_or cells cell 0) cell versions stores → Settled entries regions home versions →
    get_or (written regions cells stores) cell 0 ≡ pruned_value entries (get_or cells cell 0) versions
unfolding written
written_pruned regions cells cell under nothing holds = refl
written_pruned {entries} regions cells cell under (logged thread number tracks) (above committed pruned below) =
    let before = written_pruned regions cells cell under tracks below in
    by_cases
    (dec_lt number (entries.head thread))
    (λ is_pruned. rw (lt-ltb _ _ is_pruned) (before ∙ sym (newest_value (get_or cells cell 0) (pruned is_pruned))))
    (λ not_pruned. rw (le-ltb number (entries.head thread) (omega (arith, not_pruned))) before)
written_pruned {entries} {home} regions cells cell under (stored {version} {older} {stores} value tracks) (above committed pruned below) =
    let store : Write = record { cell = cell; value = value; region = home version.thread version.lsn } in
    let before = written_pruned regions cells cell under tracks (above committed pruned below) in
    by_cases
    (dec_lt version.lsn (entries.head version.thread))
    (λ is_pruned. rw (lt-ltb _ _ is_pruned) (written_committed regions cells stores store under (committed ∙ lt-ltb _ _ is_pruned)))
    (λ not_pruned.
    let live = le-ltb version.lsn (entries.head version.thread) (omega (arith, not_pruned)) in
    let unchanged = ap (λ (list : List ℕ). get_or list cell 0) (written_uncommitted regions cells stores store (committed ∙ live)) in
    rw live (unchanged ∙ rw live at before))
written_pruned regions cells cell under (elsewhere {stores} store differs tracks) holds =
    written-other regions cells stores store cell differs ∙ written_pruned regions cells cell under tracks holds

in_restored : {thread number value : ℕ} {version : Version} {older : List Version} →
    In thread number (version ∷ older) → In thread number (restored value (version ∷ older))
in_restored (here is_thread is_number) = here is_thread is_number
in_restored (there is_in) = there is_in

-- homes that differ at no version leave the versions and the stores in step
pub tracks_homes : {home after : ℕ → ℕ → ℕ} {start cell : ℕ} {versions : List Version} {stores : List Write} →
    ((thread number : ℕ) → In thread number versions → after thread number ≡ home thread number) →
    Tracks home start cell versions stores → Tracks after start cell versions stores
tracks_homes same nothing = nothing
tracks_homes same (logged thread number tracks) = logged thread number (tracks_homes (λ t n is_in. same t n (there is_in)) tracks)
tracks_homes {home} {after} {start} {cell} same (stored {version} {older} {stores} value tracks) =
    rw (← same version.thread version.lsn (here refl refl))
    (stored value (tracks_homes (λ t n is_in. same t n (in_restored is_in)) tracks))
tracks_homes same (elsewhere store differs tracks) = elsewhere store differs (tracks_homes same tracks)

-- homes that stay for the entries that were made stay for the versions
version_homes : {entries : Entries} {home after : ℕ → ℕ → ℕ} {start cell thread number : ℕ} {versions : List Version} →
    ((thread number : ℕ) → Made entries thread number → after thread number ≡ home thread number) →
    Chain entries start cell versions → In thread number versions → after thread number ≡ home thread number
version_homes {home} {after} {thread} {number} same (linked {version} link chain) (here is_thread is_number) =
    subst
    (λ (t : ℕ). after t number ≡ home t number)
    is_thread
    (subst (λ (n : ℕ). after version.thread n ≡ home version.thread n) is_number
    (same version.thread version.lsn link.says.made))
version_homes same (linked link chain) (there is_in) = version_homes same chain is_in
version_homes same unlogged is_in = elim is_in [ ]

pub tracks_kept : {entries : Entries} {home after : ℕ → ℕ → ℕ} {start cell : ℕ} {versions : List Version} {stores : List Write} →
    ((thread number : ℕ) → Made entries thread number → after thread number ≡ home thread number) →
    Chain entries start cell versions → Tracks home start cell versions stores → Tracks after start cell versions stores
tracks_kept same chain tracks = tracks_homes (λ thread number is_in. version_homes same chain is_in) tracks

-- the stores are in step with the versions of every cell
pub record WritesHold (home : ℕ → ℕ → ℕ) (contents : Contents) (versions : ℕ → List Version) (stores : List Write) : Type 0 where
  pub tracks : (cell : ℕ) → Tracks home (contents.start cell) cell (versions cell) stores

-- at the start there are no stores and no versions
pub writes_start : {home : ℕ → ℕ → ℕ} {contents : Contents} {versions : ℕ → List Version} →
    ((cell : ℕ) → versions cell ≡ []) → WritesHold home contents versions []
writes_start fresh = record { tracks = λ cell. rw (fresh cell) nothing }

-- a step that logs no cell and stores nothing keeps the stores in step with the versions
pub writes_keep : {entries : Entries} {home after : ℕ → ℕ → ℕ} {contents kept : Contents} {versions : ℕ → List Version}
    {stores : List Write} →
    ((cell : ℕ) → kept.start cell ≡ contents.start cell) →
    ((thread number : ℕ) → Made entries thread number → after thread number ≡ home thread number) →
    CellsHold entries contents versions → WritesHold home contents versions stores →
    WritesHold after kept versions stores
writes_keep starts same holds writes =
    record { tracks = λ cell. rw (starts cell) (tracks_kept same (holds.chain cell) (writes.tracks cell)) }

-- a LOG that makes an entry keeps the stores in step with the versions
pub writes_log : {old new : Entries} {now thread cell : ℕ} {home after : ℕ → ℕ → ℕ} {contents : Contents}
    {versions logs : ℕ → List Version} {stores : List Write} →
    LogsCell old new now thread cell contents versions logs →
    ((thread number : ℕ) → Made old thread number → after thread number ≡ home thread number) →
    CellsHold old contents versions → WritesHold home contents versions stores → WritesHold after contents logs stores
writes_log {old} {thread} {cell} {after} {contents} {versions} {logs} {stores} step same holds writes = record {
  tracks = λ other.
      by_cases
      (ℕ_discrete other cell)
      (λ is_cell. rw (is_cell, step.version_new, holds.cached_is cell) (logged thread (old.next thread) (kept cell)))
      (λ differs. rw (step.versions_other other differs) (kept other));
}
  where
    kept : (other : ℕ) → Tracks after (contents.start other) other (versions other) stores
    kept other = tracks_kept same (holds.chain other) (writes.tracks other)

-- a STORE to a cell, under the region of its newest version, keeps the stores in step with the versions
pub writes_store : {entries : Entries} {thread number cell value : ℕ} {home : ℕ → ℕ → ℕ} {contents after : Contents}
    {versions restores : ℕ → List Version} {stores : List Write} →
    StoresCell entries thread number cell value contents after versions restores →
    WritesHold home contents versions stores →
    WritesHold home after restores (stores ++ (record { cell = cell; value = value; region = home thread number } ∷ []))
writes_store {thread} {number} {cell} {value} {home} {contents} {stores} step writes = record {
  tracks = λ other.
      rw (step.start_same other)
      (by_cases
      (ℕ_discrete other cell)
      (λ is_cell. rw (is_cell, step.versions_self) (under-newest step.newest_durable.is_newest (writes.tracks cell)))
      (λ differs. rw (step.versions_other other differs) (elsewhere _ (λ same. differs (sym same)) (writes.tracks other))));
}
  where
    under-newest : {found : List Version} → Newest thread number found →
        Tracks home (contents.start cell) cell found stores →
        Tracks home (contents.start cell) cell (restored value found)
        (stores ++ (record { cell = cell; value = value; region = home thread number } ∷ []))
    under-newest (newest {version} is_thread is_number) tracks = rw (← is_thread, ← is_number) (stored value tracks)

-- the book's cells are what the pruned versions left
pub book_cell : {entries : Entries} {locks : Locks} {home : ℕ → ℕ → ℕ} {contents : Contents} {versions : ℕ → List Version} (book : Book) →
    PrunesHold entries locks → RegionsHold entries book.regions home → CellsHold entries contents versions →
    WritesHold home contents versions book.writes → (cell : ℕ) → cell < length book.start →
    contents.start cell ≡ get_or book.start cell 0 →
    get_or (cells_of book) cell 0 ≡ pruned_value entries (contents.start cell) (versions cell)
unfolding cells_of
book_cell {home} {versions} book prunes regions_hold holds writes cell under start_is =
    rw start_is
    (written_pruned book.regions book.start cell under (rw start_is at (writes.tracks cell))
    (settled prunes regions_hold (holds.chain cell)))

pub book_length : (book : Book) → length (cells_of book) ≡ length book.start
unfolding cells_of
book_length book = written_length book.regions book.start book.writes
