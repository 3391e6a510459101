-- Orders of undoing, by the places at which a list names the entries. Document 02: an "order of all present entries .. that takes each
-- thread's entries last to first and each RELEASE after every ACQUIRE of that lock with a larger count". Nothing is taken here, and nothing
-- is asked of what is left on the way.
use Rattle.std.specs.Prelude.{ℕ, ◌+◌, ◌<◌, ◌≡◌, cond, List, [], ◌∷◌, length, get_or, set, take, eqb}
use Rattle.reader.specs.Stretch.{heads_at, kind_at, place_at, value_at}
use Rattle.image.specs.Stored.{StoredLog, stored_logs, stored_log, present_entries}
use Rattle.undoing.specs.Undo.{left_of}

-- an entry by its thread and LSN
pub record Name : Type 0 where
  pub thread : ℕ
  pub lsn : ℕ

abbrev pub name : ℕ → ℕ → Name
name thread lsn = record { thread = thread; lsn = lsn }

-- the entry that a list names at a place
abbrev pub name_at : List Name → ℕ → Name
name_at order place = get_or order place (name 0 0)

-- the kind, place and value of an entry
abbrev pub kind_in : List StoredLog → Name → ℕ
kind_in logs entry = kind_at (stored_log logs entry.thread).stretch entry.lsn

abbrev pub place_in : List StoredLog → Name → ℕ
place_in logs entry = place_at (stored_log logs entry.thread).stretch entry.lsn

abbrev pub value_in : List StoredLog → Name → ℕ
value_in logs entry = value_at (stored_log logs entry.thread).stretch entry.lsn

-- the entry is one of the first so many of its thread, from the head on; with `present_entries` for these counts it is a present one
pub record IsLeft (logs : List StoredLog) (left : List ℕ) (entry : Name) : Type 0 where
  pub index : ℕ
  pub below : index < left_of left entry.thread
  pub is_lsn : entry.lsn ≡ (stored_log logs entry.thread).head + index

-- an order of so many entries of each thread
pub record IsOrderOf (logs : List StoredLog) (left : List ℕ) (order : List Name) : Type 0 where
  -- "of all present entries": the list names no other, each of them, and none twice
  pub only : (i : ℕ) → i < length order → IsLeft logs left (name_at order i)
  pub all : (entry : Name) → IsLeft logs left entry → (i : ℕ) × (i < length order) × (name_at order i ≡ entry)
  pub once : (i j : ℕ) → i < length order → j < length order → name_at order i ≡ name_at order j → i ≡ j
  -- "takes each thread's entries last to first": of two of a thread the larger LSN stands first
  pub last_first : (i j : ℕ) → i < length order → j < length order → (name_at order i).thread ≡ (name_at order j).thread →
      (name_at order i).lsn < (name_at order j).lsn → j < i
  -- "and each RELEASE after every ACQUIRE of that lock with a larger count", of any thread, its own too
  pub release_after : (i j : ℕ) → i < length order → j < length order →
      kind_in logs (name_at order i) ≡ 3 → kind_in logs (name_at order j) ≡ 2 →
      place_in logs (name_at order i) ≡ place_in logs (name_at order j) →
      value_in logs (name_at order i) < value_in logs (name_at order j) → j < i

-- an order of all present entries of an image
abbrev pub IsOrder : List ℕ → List Name → Type 0
IsOrder image order = IsOrderOf (stored_logs image) (present_entries image) order

-- the cells after the entries that a list names are undone in its order: "A STORE taken writes its value back."
unfoldable pub undone_by : List StoredLog → List ℕ → List Name → List ℕ
undone_by logs cells [] = cells
undone_by logs cells (entry ∷ order) =
    undone_by logs (cond (eqb (kind_in logs entry) 1) (set cells (place_in logs entry) (value_in logs entry)) cells) order

-- the cells that an order leads to: "Recovery copies the kept cells", and then each entry is undone
abbrev pub undone_in_order : List ℕ → List Name → List ℕ
undone_in_order image order = undone_by (stored_logs image) (take heads_at image) order
