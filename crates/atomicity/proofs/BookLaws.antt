-- Laws of the plain book's lists: the first region of which a test holds, what opening, ending and committing a region change, and what a
-- cell holds once the stores under committed regions are written.
use Prim.Native.Nat.{ℕ, zero, suc, ◌+◌, ◌<◌}
use native.Mathlib.Decide.{ℕ_discrete}
use native.Mathlib.Nat.{not-suc-le-zero, le_of_suc-le-suc, add-zero, add-suc, suc-add}
use native.Mathlib.Omega.{arith}
use mathlib.Core.Path.{◌≡◌, refl, sym, ap, ◌∙◌}
use mathlib.Core.Bool.{Bool, true, false, cond, not, ◌&&◌}
use mathlib.Core.List.{List, [], ◌∷◌, ◌++◌, map}
use mathlib.Core.Logic.{◌⊎◌, inl, inr, ⊎_elim, by_cases}
use Rattle.std.specs.Prelude.{Option, None, Some}
use lib.Dec.{eqb}
use lib.ListN.{length, get_or, set, length-append, length-map, length-set, get_or-append}
use lib.Seq.{get_or-append_seam, get_or-set_same, get_or-set_other}
use borrow.Author.Tests.{eq-eqb, ne_eqb}
use Rattle.reference.specs.Reference.{Region, Write, Book, open_of, write, feed_store, is_open_of, open_from, end_of, commit_oldest, is_committed_at}
use Rattle.reference.specs.Reference.{written}

-- the region at a place; past the end the closed, uncommitted one that is_committed_at reads there
abbrev pub region_at : List Region → ℕ → Region
region_at regions place = get_or regions place (record { thread = 0; is_open = false; is_committed = false })

-- the region is not committed, and the thread's
abbrev pub is_uncommitted_of : ℕ → Region → Bool
is_uncommitted_of thread region = eqb region.thread thread && not region.is_committed

-- the region, committed
abbrev pub committed_of : Region → Region
committed_of region = record { thread = region.thread; is_open = region.is_open; is_committed = true }

-- a test that is of this thread's regions only: where it holds, and where not
pub test-holds : {thread other : ℕ} {test : Bool} → other ≡ thread → test ≡ true → (eqb other thread && test) ≡ true
test-holds {thread} {other} same holds = rw (eq-eqb other thread same, holds)

pub test-fails : {thread other : ℕ} {test : Bool} → (other ≡ thread → test ≡ true → ⊥) → (eqb other thread && test) ≡ false
test-fails {thread} {other} {test} never =
    by_cases
    (ℕ_discrete other thread)
    (λ same. rw (eq-eqb other thread same) (not-true test (λ holds. never same holds)))
    (λ differs. rw (ne_eqb other thread differs))
  where
    not-true : (value : Bool) → (value ≡ true → ⊥) → value ≡ false
    not-true true fails = absurd (fails refl)
    not-true false fails = refl

-- the first place whose region the test holds of
pub record First (test : Region → Bool) (regions : List Region) (place : ℕ) : Type 0 where
  pub in_range : place < length regions
  pub holds : test (region_at regions place) ≡ true
  pub before : (earlier : ℕ) → earlier < place → test (region_at regions earlier) ≡ false

-- the test holds of no region
abbrev pub NoneOf : (Region → Bool) → List Region → Type 0
NoneOf test regions = (place : ℕ) → place < length regions → test (region_at regions place) ≡ false

-- one region more in front, of which the test doesn't hold
later : (test : Region → Bool) (region : Region) (regions : List Region) (bound : ℕ) → test region ≡ false →
    ((place : ℕ) → place < bound → test (region_at regions place) ≡ false) → (place : ℕ) → place < suc bound →
    test (region_at (region ∷ regions) place) ≡ false
later test region regions bound fails rest zero under = fails
later test region regions bound fails rest (suc place) under = rest place (omega arith)

first_later : {test : Region → Bool} {region : Region} {regions : List Region} {place : ℕ} → test region ≡ false →
    First test regions place → First test (region ∷ regions) (suc place)
first_later {test} {region} {regions} {place} fails first =
    let under = first.in_range in
    record {
      in_range = omega arith;
      holds = first.holds;
      before = later test region regions place fails first.before;
    }

-- without the region in front, a first place other than 0 is one less
pub first_rest : {test : Region → Bool} {region : Region} {regions : List Region} {place : ℕ} →
    First test (region ∷ regions) (suc place) → First test regions place
first_rest first = record {
  in_range = le_of_suc-le-suc first.in_range;
  holds = first.holds;
  before = λ earlier under. first.before (suc earlier) (omega arith);
}

-- there is a first place whose region the test holds of, or the test holds of no region
pub first_or_none : (test : Region → Bool) (regions : List Region) → ((place : ℕ) × First test regions place) ⊎ NoneOf test regions
first_or_none test [] = inr (λ place under. absurd (not-suc-le-zero under))
first_or_none test (region ∷ regions) = by-test (test region) refl (first_or_none test regions)
  where
    by-test : (holds : Bool) → test region ≡ holds → ((place : ℕ) × First test regions place) ⊎ NoneOf test regions →
        ((place : ℕ) × First test (region ∷ regions) place) ⊎ NoneOf test (region ∷ regions)
    by-test true holds rest =
        inl (
          0,
          record {
            in_range = omega arith;
            holds = holds;
            before = λ earlier under. absurd (not-suc-le-zero under);
          },
        )
    by-test false fails rest =
        ⊎_elim
        (λ found. inl (suc found.0, first_later fails found.1))
        (λ none. inr (later test region regions (length regions) fails none))
        rest

-- the thread's open region is the first open one of its
pub open_first : (thread : ℕ) (regions : List Region) (place from : ℕ) → First (is_open_of thread) regions place →
    open_from thread regions from ≡ Some (from + place)
unfolding open_from
open_first thread [] place from first = absurd (not-suc-le-zero first.in_range)
open_first thread (region ∷ regions) zero from first = rw (first.holds, add-zero from)
open_first thread (region ∷ regions) (suc place) from first =
    rw (first.before 0 (omega arith), add-suc from place, ← suc-add from place)
    (open_first thread regions place (suc from) (first_rest first))

pub open_none : (thread : ℕ) (regions : List Region) (from : ℕ) → NoneOf (is_open_of thread) regions → open_from thread regions from ≡ None
unfolding open_from
open_none thread [] from fails = refl
open_none thread (region ∷ regions) from fails =
    rw (fails 0 (omega arith)) (open_none thread regions (suc from) (λ place under. fails (suc place) (omega arith)))

-- the thread's first uncommitted region is committed, and nothing else changes
pub commit_first : (thread : ℕ) (regions : List Region) (place : ℕ) → First (is_uncommitted_of thread) regions place →
    commit_oldest thread regions ≡ set regions place (committed_of (region_at regions place))
unfolding commit_oldest
commit_first thread [] place first = absurd (not-suc-le-zero first.in_range)
commit_first thread (region ∷ regions) zero first = rw first.holds
commit_first thread (region ∷ regions) (suc place) first =
    rw (first.before 0 (omega arith)) (ap (λ (rest : List Region). region ∷ rest) (commit_first thread regions place (first_rest first)))

pub commit_none : (thread : ℕ) (regions : List Region) → NoneOf (is_uncommitted_of thread) regions → commit_oldest thread regions ≡ regions
unfolding commit_oldest
commit_none thread [] fails = refl
commit_none thread (region ∷ regions) fails =
    rw (fails 0 (omega arith))
    (ap (λ (rest : List Region). region ∷ rest) (commit_none thread regions (λ place under. fails (suc place) (omega arith))))

pub commit_length : (thread : ℕ) (regions : List Region) → length (commit_oldest thread regions) ≡ length regions
commit_length thread regions =
    ⊎_elim
    (λ found. ap length (commit_first thread regions found.0 found.1) ∙ simp length-set)
    (λ fails. ap length (commit_none thread regions fails))
    (first_or_none (is_uncommitted_of thread) regions)

-- commit_oldest commits the thread's first uncommitted region, and leaves every other one as it was
pub region_committed : (thread : ℕ) (regions : List Region) (place : ℕ) → First (is_uncommitted_of thread) regions place →
    region_at (commit_oldest thread regions) place ≡ committed_of (region_at regions place)
region_committed thread regions place first =
    ap (λ (rest : List Region). region_at rest place) (commit_first thread regions place first) ∙
    get_or-set_same regions place _ _ first.in_range

pub region_uncommitted : (thread : ℕ) (regions : List Region) (place other : ℕ) →
    First (is_uncommitted_of thread) regions place → (other ≡ place → ⊥) →
    region_at (commit_oldest thread regions) other ≡ region_at regions other
region_uncommitted thread regions place other first differs =
    ap (λ (rest : List Region). region_at rest other) (commit_first thread regions place first) ∙
    get_or-set_other regions place other _ _ differs

-- ending a thread's open region: each region with no open one of the thread
pub ended_length : (thread : ℕ) (regions : List Region) → length (map (end_of thread) regions) ≡ length regions
ended_length thread regions = length-map regions (end_of thread)

pub region-ended : (thread : ℕ) (regions : List Region) (place : ℕ) → place < length regions →
    region_at (map (end_of thread) regions) place ≡ end_of thread (region_at regions place)
region-ended thread [] place under = absurd (not-suc-le-zero under)
region-ended thread (region ∷ regions) zero under = refl
region-ended thread (region ∷ regions) (suc place) under = region-ended thread regions place (le_of_suc-le-suc under)

pub ended_mine : (thread : ℕ) (region : Region) → region.thread ≡ thread → (end_of thread region).is_open ≡ false
ended_mine thread region same = rw (eq-eqb region.thread thread same) (closes region.is_open)
  where
    closes : (is_open : Bool) → cond is_open false is_open ≡ false
    closes true = refl
    closes false = refl

pub ended-other : (thread : ℕ) (region : Region) → (region.thread ≡ thread → ⊥) → (end_of thread region).is_open ≡ region.is_open
ended-other thread region differs = rw (ne_eqb region.thread thread differs)

-- one region more at the end
pub snoc_length : (regions : List Region) (region : Region) → length (regions ++ (region ∷ [])) ≡ suc (length regions)
snoc_length regions region = let sum = length-append regions (region ∷ []) in omega arith

pub region_old : (regions : List Region) (region : Region) (place : ℕ) → place < length regions →
    region_at (regions ++ (region ∷ [])) place ≡ region_at regions place
region_old regions region place under = get_or-append regions (region ∷ []) _ place under

pub region_new : (regions : List Region) (region : Region) → region_at (regions ++ (region ∷ [])) (length regions) ≡ region
region_new regions region = get_or-append_seam regions region [] _

-- a STORE under the thread's open region goes to the end of the list
pub store_writes : (book : Book) (thread cell value : ℕ) {place : ℕ} → open_of book thread ≡ Some place →
    (feed_store book thread cell value).writes ≡ book.writes ++ (record { cell = cell; value = value; region = place } ∷ [])
store_writes book thread cell value is_open = rw is_open

pub store_regions : (book : Book) (thread cell value : ℕ) → (feed_store book thread cell value).regions ≡ book.regions
store_regions book thread cell value = kept (open_of book thread)
  where
    kept : (opened : Option ℕ) → (write opened book cell value).regions ≡ book.regions
    kept None = refl
    kept (Some place) = refl

-- the cells with one store written, if its region is committed
abbrev pub written_one : List Region → List ℕ → Write → List ℕ
written_one regions cells store = cond (is_committed_at regions store.region) (set cells store.cell store.value) cells

-- a store at the end of the list is written last
pub written_snoc : (regions : List Region) (cells : List ℕ) (stores : List Write) (store : Write) →
    written regions cells (stores ++ (store ∷ [])) ≡ written_one regions (written regions cells stores) store
unfolding written
written_snoc regions cells [] store = refl
written_snoc regions cells (first ∷ stores) store = written_snoc regions (written_one regions cells first) stores store

one_length : (is_committed : Bool) (cells : List ℕ) (cell value : ℕ) → length (cond is_committed (set cells cell value) cells) ≡ length cells
one_length true cells cell value = length-set cells cell value
one_length false cells cell value = refl

pub written_length : (regions : List Region) (cells : List ℕ) (stores : List Write) → length (written regions cells stores) ≡ length cells
unfolding written
written_length regions cells [] = refl
written_length regions cells (store ∷ stores) =
    written_length regions (written_one regions cells store) stores ∙
    one_length (is_committed_at regions store.region) cells store.cell store.value

-- a store under a committed region is what its cell holds; under another one it changes nothing, nor does it another cell
pub written_committed : (regions : List Region) (cells : List ℕ) (stores : List Write) (store : Write) →
    store.cell < length cells → is_committed_at regions store.region ≡ true →
    get_or (written regions cells (stores ++ (store ∷ []))) store.cell 0 ≡ store.value
written_committed regions cells stores store under is_committed =
    let same = written_length regions cells stores in
    rw (written_snoc regions cells stores store, is_committed)
    (get_or-set_same (written regions cells stores) store.cell store.value 0 (omega arith))

pub written_uncommitted : (regions : List Region) (cells : List ℕ) (stores : List Write) (store : Write) →
    is_committed_at regions store.region ≡ false →
    written regions cells (stores ++ (store ∷ [])) ≡ written regions cells stores
written_uncommitted regions cells stores store not_committed = rw (written_snoc regions cells stores store, not_committed)

one-other : (is_committed : Bool) (cells : List ℕ) (cell value other : ℕ) → (other ≡ cell → ⊥) →
    get_or (cond is_committed (set cells cell value) cells) other 0 ≡ get_or cells other 0
one-other true cells cell value other differs = get_or-set_other cells cell other value 0 differs
one-other false cells cell value other differs = refl

pub written-other : (regions : List Region) (cells : List ℕ) (stores : List Write) (store : Write) (cell : ℕ) →
    (store.cell ≡ cell → ⊥) →
    get_or (written regions cells (stores ++ (store ∷ []))) cell 0 ≡ get_or (written regions cells stores) cell 0
written-other regions cells stores store cell differs =
    rw (written_snoc regions cells stores store)
    (one-other (is_committed_at regions store.region) (written regions cells stores) store.cell store.value cell
    (λ same. differs (sym same)))
