-- The plain book's regions and the entries that the threads made: each entry stands in one region, a region is committed when its entries
-- are pruned, and a thread's open region is that of its last entry, if that is no RELEASE. What the book says follows from it.
use Prim.Native.Nat.{ℕ, zero, suc, ◌+◌, ◌-◌, ◌≤◌, ◌<◌}
use native.Mathlib.Decide.{dec_lt}
use native.Mathlib.Nat.{zero-add, add-zero, add-suc}
use native.Mathlib.Omega.{arith}
use mathlib.Core.Path.{◌≡◌, refl, sym, ap, ◌∙◌}
use mathlib.Core.Bool.{Bool, true, false, true≢false}
use mathlib.Core.List.{List, []}
use mathlib.Core.Logic.{◌⊎◌, inl, inr, ⊎_elim, by_cases}
use Rattle.std.specs.Prelude.{Option, None, Some}
use lib.Dec.{ltb}
use lib.ListN.{length}
use Rattle.undo.specs.Regions.{is_acquire, is_release}
use Rattle.event.specs.declared.Event.TheVariants.{Store}
use Rattle.reference.specs.Reference.{Region, Book, open_of, is_open_of, joins, join_opened, is_committed_at}
use Rattle.atomicity.proofs.Logged.{Entries, Made, Is, Grows, Keeps, made_kept}
use Rattle.atomicity.proofs.Cells.{NoBoundaryAfter}
use Rattle.atomicity.proofs.BookLaws.{region_at, First, open_first, open_none, test-holds, test-fails}

-- the entry is its thread's last one, and no RELEASE: its region goes on
pub record Unended (entries : Entries) (thread number : ℕ) : Type 0 where
  pub made : Made entries thread number
  pub is_last : suc number ≡ entries.next thread
  pub no_release : is_release (entries.event thread number) ≡ false

-- a region ends between the entry and the next one
abbrev pub Boundary : Entries → ℕ → ℕ → Type 0
Boundary entries thread number = (is_release (entries.event thread number) ≡ true) ⊎ (is_acquire (entries.event thread (suc number)) ≡ true)

-- the place of the region in which each entry stands, by thread and LSN
pub record RegionsHold (entries : Entries) (regions : List Region) (home : ℕ → ℕ → ℕ) : Type 0 where
  pub in_range : {thread number : ℕ} → Made entries thread number → home thread number < length regions
  pub owner : {thread number : ℕ} → Made entries thread number → (region_at regions (home thread number)).thread ≡ thread
  -- a region is committed when its entries are pruned
  pub committed : {thread number : ℕ} → Made entries thread number →
      is_committed_at regions (home thread number) ≡ ltb number (entries.head thread)
  -- a thread's open region is that of its last entry, which is no RELEASE and not pruned
  pub open_last : {thread place : ℕ} → place < length regions → (region_at regions place).thread ≡ thread →
      (region_at regions place).is_open ≡ true →
      (number : ℕ) × Unended entries thread number × (home thread number ≡ place)
  pub last_open : {thread number : ℕ} → Unended entries thread number → (region_at regions (home thread number)).is_open ≡ true
  pub last_live : {thread number : ℕ} → Unended entries thread number → entries.head thread ≤ number
  -- a thread's entries stand in its regions in order, in the next one after a boundary and else in the same one
  pub grows : {thread number later : ℕ} → Made entries thread number → Made entries thread later → number ≤ later →
      home thread number ≤ home thread later
  pub same : {thread number : ℕ} → Made entries thread number → Made entries thread (suc number) →
      is_release (entries.event thread number) ≡ false → is_acquire (entries.event thread (suc number)) ≡ false →
      home thread number ≡ home thread (suc number)
  pub next : {thread number : ℕ} → Made entries thread number → Made entries thread (suc number) →
      Boundary entries thread number → home thread number < home thread (suc number)
  -- no region is empty
  pub inhabited : {thread place : ℕ} → place < length regions → (region_at regions place).thread ≡ thread →
      (number : ℕ) × Made entries thread number × (home thread number ≡ place)

-- at the start there are no regions and no entries
pub regions_start : {entries : Entries} {home : ℕ → ℕ → ℕ} →
    ((thread : ℕ) → entries.next thread ≤ suc (entries.before thread)) → RegionsHold entries [] home
regions_start {entries} {home} fresh = record {
  in_range = λ made. nothing made;
  owner = λ made. nothing made;
  committed = λ made. nothing made;
  open_last = λ under is_owner is_open. absurd (omega arith);
  last_open = λ last. nothing last.made;
  last_live = λ last. nothing last.made;
  grows = λ made made_later before. nothing made;
  same = λ made made_next no_release no_acquire. nothing made;
  next = λ made made_next boundary. nothing made;
  inhabited = λ under is_owner. absurd (omega arith);
}
  where
    nothing : {A : Type 0} {thread number : ℕ} → Made entries thread number → A
    nothing {thread} made = let bound = fresh thread in absurd (omega arith)

-- a thread that makes no entry has the same last one
pub unended_was : {old new : Entries} {now thread number : ℕ} → Grows old new now →
    new.next thread ≡ old.next thread → Made old thread number → Unended new thread number → Unended old thread number
unended_was {thread} {number} grows same made last = record {
  made = made;
  is_last = last.is_last ∙ same;
  no_release = sym (ap is_release (grows.says_same thread number made)) ∙ last.no_release;
}

pub unended_still : {old new : Entries} {now thread number : ℕ} → Grows old new now →
    new.next thread ≡ old.next thread → Unended old thread number → Unended new thread number
unended_still {thread} {number} grows same last = record {
  made = grows.still thread number last.made;
  is_last = last.is_last ∙ sym same;
  no_release = ap is_release (grows.says_same thread number last.made) ∙ last.no_release;
}

-- a boundary between two entries that were there
pub boundary_was : {old new : Entries} {now thread number : ℕ} → Grows old new now → Made old thread number →
    Made old thread (suc number) → Boundary new thread number → Boundary old thread number
boundary_was {thread} {number} grows made made_next =
    ⊎_elim
    (λ is_end. inl (sym (ap is_release (grows.says_same thread number made)) ∙ is_end))
    (λ is_begin. inr (sym (ap is_acquire (grows.says_same thread (suc number) made_next)) ∙ is_begin))

-- two lists have the same regions, of which other ones may be committed
pub record SameRegions (regions after : List Region) : Type 0 where
  pub length_same : length after ≡ length regions
  pub thread_same : (place : ℕ) → (region_at after place).thread ≡ (region_at regions place).thread
  pub open_same : (place : ℕ) → (region_at after place).is_open ≡ (region_at regions place).is_open

-- no entry more: what is committed and what is pruned change together
pub regions_recommit : {old new : Entries} {now : ℕ} {regions after : List Region} {home : ℕ → ℕ → ℕ} →
    Keeps old new now → SameRegions regions after →
    ((thread number : ℕ) → Made old thread number → is_committed_at after (home thread number) ≡ ltb number (new.head thread)) →
    ((thread number : ℕ) → Unended old thread number → new.head thread ≤ number) → RegionsHold old regions home →
    RegionsHold new after home
regions_recommit {old} {new} {now} {regions} {after} {home} keeps alike is_committed is_live holds = record {
  in_range = λ made. rw alike.length_same (holds.in_range (made_kept keeps made));
  owner = λ {thread} {number} made. alike.thread_same (home thread number) ∙ holds.owner (made_kept keeps made);
  committed = λ {thread} {number} made. is_committed thread number (made_kept keeps made);
  open_last = λ {thread} {place} under is_owner is_open.
      let found =
      holds.open_last (rw alike.length_same at under) (sym (alike.thread_same place) ∙ is_owner) (sym (alike.open_same place) ∙ is_open) in
      (found.0, unended_still keeps.grows (keeps.next_same thread) found.1, found.2);
  last_open = λ {thread} {number} last. alike.open_same (home thread number) ∙ holds.last_open (last-was last);
  last_live = λ {thread} {number} last. is_live thread number (last-was last);
  grows = λ made made_later before. holds.grows (made_kept keeps made) (made_kept keeps made_later) before;
  same = λ {thread} {number} made made_next no_release no_acquire.
      let one = made_kept keeps made in
      let two = made_kept keeps made_next in
      holds.same
      one
      two
      (sym (ap is_release (keeps.grows.says_same thread number one)) ∙ no_release)
      (sym (ap is_acquire (keeps.grows.says_same thread (suc number) two)) ∙ no_acquire);
  next = λ made made_next boundary.
      let one = made_kept keeps made in
      let two = made_kept keeps made_next in
      holds.next one two (boundary_was keeps.grows one two boundary);
  inhabited = λ {thread} {place} under is_owner.
      let found = holds.inhabited (rw alike.length_same at under) (sym (alike.thread_same place) ∙ is_owner) in
      (found.0, keeps.grows.still thread found.0 found.1, found.2);
}
  where
    last-was : {thread number : ℕ} → Unended new thread number → Unended old thread number
    last-was {thread} last = unended_was keeps.grows (keeps.next_same thread) (made_kept keeps last.made) last

-- a step that makes no entry and moves no head keeps what holds of the regions
pub regions_keep : {old new : Entries} {now : ℕ} {regions : List Region} {home : ℕ → ℕ → ℕ} → Keeps old new now →
    ((thread : ℕ) → new.head thread ≡ old.head thread) → RegionsHold old regions home → RegionsHold new regions home
regions_keep keeps heads holds =
    regions_recommit
    keeps
    (record { length_same = refl; thread_same = λ place. refl; open_same = λ place. refl })
    (λ thread number made. rw (heads thread) (holds.committed made))
    (λ thread number last. rw (heads thread) (holds.last_live last))
    holds

-- the entry's region is the first open one of its thread
open_region : {entries : Entries} {regions : List Region} {home : ℕ → ℕ → ℕ} {thread number : ℕ} →
    RegionsHold entries regions home → Unended entries thread number →
    First (is_open_of thread) regions (home thread number)
open_region {entries} {regions} {home} {thread} {number} holds last = record {
  in_range = holds.in_range last.made;
  holds = test-holds (holds.owner last.made) (holds.last_open last);
  before = λ earlier under. test-fails (nothing-before earlier under);
}
  where
    nothing-before : (earlier : ℕ) → earlier < home thread number → (region_at regions earlier).thread ≡ thread →
        (region_at regions earlier).is_open ≡ true → ⊥
    nothing-before earlier under is_owner is_open =
        let in_bounds = holds.in_range last.made in
        let found = holds.open_last (omega arith) is_owner is_open in
        let one = found.1.is_last in
        let other = last.is_last in
        let same : found.0 ≡ number = omega arith in
        let equal : home thread found.0 ≡ home thread number = ap (home thread) same in
        let place = found.2 in
        omega arith

-- a thread's last entry goes on its region, or there is no such entry
pub unended_or_not : (entries : Entries) (thread : ℕ) →
    ((number : ℕ) × Unended entries thread number) ⊎ ((number : ℕ) → Unended entries thread number → ⊥)
unended_or_not entries thread =
    by_cases
    (dec_lt (suc (entries.before thread)) (entries.next thread))
    (λ some-entry. by-event (is_release (entries.event thread (entries.next thread - 1))) refl some-entry)
    (λ no-entry. inr (λ number last.
    let since = last.made.since in
    let below = last.made.below in
    no-entry (omega arith)))
  where
    by-event : (ends : Bool) → is_release (entries.event thread (entries.next thread - 1)) ≡ ends →
        suc (entries.before thread) < entries.next thread →
        ((number : ℕ) × Unended entries thread number) ⊎ ((number : ℕ) → Unended entries thread number → ⊥)
    by-event true is_end some-entry = inr (λ number last.
        let is_last = last.is_last in
        let place : entries.next thread - 1 ≡ number = omega arith in
        true≢false (sym (rw place at is_end) ∙ last.no_release))
    by-event false is_no_end some-entry =
        inl (
          entries.next thread - 1,
          record {
            made = record { since = omega arith; below = omega arith };
            is_last = omega arith;
            no_release = is_no_end;
          },
        )

-- an entry after which no region begins or ends, and that is no RELEASE, stands in the region of the last entry
stands_together : {entries : Entries} {regions : List Region} {home : ℕ → ℕ → ℕ} {thread number : ℕ} →
    RegionsHold entries regions home → Made entries thread number → is_release (entries.event thread number) ≡ false →
    NoBoundaryAfter entries thread number → (count : ℕ) → Made entries thread (number + count) →
    (home thread number ≡ home thread (number + count)) × (is_release (entries.event thread (number + count)) ≡ false)
stands_together {number} holds made no_release no_boundary zero made_later = rw (add-zero number) (refl, no_release)
stands_together {entries} {regions} {home} {thread} {number} holds made no_release no_boundary (suc count) made_later =
    let place = add-suc number count in
    let since = made.since in
    let further : Made entries thread (suc (number + count)) = rw place at made_later in
    let below = further.below in
    let nearer : Made entries thread (number + count) = record { since = omega arith; below = omega arith } in
    let before = stands_together holds made no_release no_boundary count nearer in
    let after = no_boundary (suc (number + count)) (omega arith) further in
    rw place (before.0 ∙ holds.same nearer further before.1 after.0, after.1)

pub unended-current : {entries : Entries} {regions : List Region} {home : ℕ → ℕ → ℕ} {thread number : ℕ} →
    RegionsHold entries regions home → Made entries thread number → is_release (entries.event thread number) ≡ false →
    NoBoundaryAfter entries thread number →
    (last : ℕ) × Unended entries thread last × (home thread number ≡ home thread last)
unended-current {entries} {regions} {home} {thread} {number} holds made no_release no_boundary =
    let since = made.since in
    let below = made.below in
    let is_last : Made entries thread (number + (entries.next thread - suc number)) = record { since = omega arith; below = omega arith } in
    let together = stands_together holds made no_release no_boundary (entries.next thread - suc number) is_last in (
      number + (entries.next thread - suc number),
      record { made = is_last; is_last = omega arith; no_release = together.1 },
      together.0,
    )

module _ {entries : Entries} {home : ℕ → ℕ → ℕ} (book : Book) (holds : RegionsHold entries book.regions home) where
  -- the thread's open region is that of its last entry, if that is no RELEASE
  pub open_is : {thread number : ℕ} → Unended entries thread number → open_of book thread ≡ Some (home thread number)
  unfolding open_of
  open_is {thread} {number} last =
      open_first thread book.regions (home thread number) 0 (open_region holds last) ∙ ap Some (zero-add (home thread number))

  -- a thread that made no entry, or whose last entry is a RELEASE, has no open region
  pub open-is-none : {thread : ℕ} → ((number : ℕ) → Unended entries thread number → ⊥) → open_of book thread ≡ None
  unfolding open_of
  open-is-none {thread} ended =
      open_none thread book.regions 0 (λ place under. test-fails (λ is_owner is_open.
      let found = holds.open_last under is_owner is_open in
      ended found.0 found.1))

  -- where the cell has an entry in the current region, that region is the open one
  pub open-current : {thread number cell content : ℕ} → Is entries thread number (Store cell content) →
      NoBoundaryAfter entries thread number → open_of book thread ≡ Some (home thread number)
  open-current {thread} {number} is no_boundary =
      let found = unended-current holds is.made (ap is_release is.says) no_boundary in
      open_is found.1 ∙ ap Some (sym found.2)

-- the place of the region that a LOG or a LOGREL joins: the open one's, or that of one more
abbrev pub place_in : Option ℕ → ℕ → ℕ
place_in None count = count
place_in (Some place) count = place

abbrev pub joined_place : Book → ℕ → ℕ
joined_place book thread = place_in (open_of book thread) (length book.regions)

-- what the book says that LOG (2), ACQUIRE (4) and LOGREL (5) join
joins-opened : (opened : Option ℕ) (book : Book) → join_opened opened book ≡ Some (place_in opened (length book.regions))
joins-opened None book = refl
joins-opened (Some place) book = refl

pub joins_log : (book : Book) (thread : ℕ) → joins book 2 thread ≡ Some (joined_place book thread)
unfolding joins
joins_log book thread = joins-opened (open_of book thread) book

pub joins_acquire : (book : Book) (thread : ℕ) → joins book 4 thread ≡ Some (length book.regions)
unfolding joins
joins_acquire book thread = refl

pub joins_release : (book : Book) (thread : ℕ) → joins book 5 thread ≡ Some (joined_place book thread)
unfolding joins
joins_release book thread = joins-opened (open_of book thread) book
