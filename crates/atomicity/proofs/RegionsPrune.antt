-- A PRUNE of a thread's oldest live region: the book commits the region in which those entries stand, and the regions hold.
use Prim.Native.Nat.{ℕ, zero, suc, ◌+◌, ◌-◌, ◌≤◌, ◌<◌}
use native.Mathlib.Decide.{dec_lt, ℕ_discrete}
use native.Mathlib.Nat.{add-zero, add-suc}
use native.Mathlib.Omega.{arith}
use mathlib.Core.Path.{◌≡◌, refl, sym, ap, ◌∙◌}
use mathlib.Core.Bool.{true, false, not, true≢false}
use mathlib.Core.List.{List}
use mathlib.Core.Logic.{◌⊎◌, inl, inr, ⊎_elim, by_cases}
use lib.Dec.{ltb}
use borrow.Author.Tests.{lt-ltb, le-ltb, not-true}
use Rattle.undo.specs.Regions.{is_acquire, is_release}
use Rattle.reference.specs.Reference.{Region, commit_oldest, is_committed_at}
use Rattle.atomicity.proofs.Logged.{Entries, Made, Keeps}
use Rattle.atomicity.proofs.BookLaws.{region_at, First, test-holds, test-fails, is_uncommitted_of, committed_of, commit_length}
use Rattle.atomicity.proofs.BookLaws.{region_committed, region_uncommitted}
use Rattle.atomicity.proofs.Regions.{Unended, Boundary, RegionsHold, SameRegions, regions_recommit}

-- what a PRUNE of a region of so many entries asks and does
pub record PruneRegions (old new : Entries) (now thread size : ℕ) : Type 0 where
  pub keeps : Keeps old new now
  pub not_empty : 1 ≤ size
  pub head_since : old.before thread < old.head thread
  pub head_more : new.head thread ≡ old.head thread + size
  pub head_other : (other : ℕ) → (other ≡ thread → ⊥) → new.head other ≡ old.head other
  pub within : old.head thread + size ≤ old.next thread
  -- the region has an ACQUIRE only as its first entry, and a RELEASE only as its last one
  pub acquire_first : (number : ℕ) → old.head thread < number → number < old.head thread + size →
      is_acquire (old.event thread number) ≡ false
  pub release_last : (number : ℕ) → old.head thread ≤ number → suc number < old.head thread + size →
      is_release (old.event thread number) ≡ false
  -- an entry that follows the pruned region begins another one, and the pruned region is finished
  pub ends : old.head thread + size < old.next thread →
      (is_acquire (old.event thread (old.head thread + size)) ≡ true) ⊎
      (is_release (old.event thread (old.head thread + size - 1)) ≡ true)
  pub finished : (old.head thread + size < old.next thread) ⊎ (is_release (old.event thread (old.head thread + size - 1)) ≡ true)

module _ {entries : Entries} {regions : List Region} {home : ℕ → ℕ → ℕ} {thread : ℕ} (holds : RegionsHold entries regions home) where
  -- so many entries from this one on, with an ACQUIRE only as the first and a RELEASE only as the last, stand in one region
  pub run-together : (first size : ℕ) → entries.before thread < first → first + size ≤ entries.next thread
      → ((number : ℕ) → first < number → number < first + size → is_acquire (entries.event thread number) ≡ false)
      → ((number : ℕ) → first ≤ number → suc number < first + size → is_release (entries.event thread number) ≡ false)
      → (count : ℕ) → count < size → home thread (first + count) ≡ home thread first
  run-together first size since within no_acquire no_release zero under = rw (add-zero first)
  run-together first size since within no_acquire no_release (suc count) under =
      let place = add-suc first count in
      let nearer : Made entries thread (first + count) = record { since = omega arith; below = omega arith } in
      let further : Made entries thread (suc (first + count)) = record { since = omega arith; below = omega arith } in
      let no_end = no_release (first + count) (omega arith) (omega arith) in
      let no_begin = no_acquire (suc (first + count)) (omega arith) (omega arith) in
      let nearest = run-together first size since within no_acquire no_release count (omega arith) in
      rw place (sym (holds.same nearer further no_end no_begin) ∙ nearest)

  -- the region of the first live entry is the thread's first uncommitted one
  pub oldest-uncommitted : Made entries thread (entries.head thread)
      → First (is_uncommitted_of thread) regions (home thread (entries.head thread))
  oldest-uncommitted made =
      let is_live = holds.committed made ∙ le-ltb (entries.head thread) (entries.head thread) (omega arith) in
      record {
        in_range = holds.in_range made;
        holds = test-holds (holds.owner made) (rw is_live);
        before = λ earlier under. test-fails (nothing-before earlier under);
      }
    where
      nothing-before : (earlier : ℕ) → earlier < home thread (entries.head thread) → (region_at regions earlier).thread ≡ thread
          → not (region_at regions earlier).is_committed ≡ true → ⊥
      nothing-before earlier under is_owner not_committed =
          let in_bounds = holds.in_range made in
          let found = holds.inhabited (omega arith) is_owner in
          let place = found.2 in
          by_cases
          (dec_lt found.0 (entries.head thread))
          (λ pruned.
          let is_committed : is_committed_at regions earlier ≡ true =
          ap (is_committed_at regions) (sym place) ∙ (holds.committed found.1 ∙ lt-ltb _ _ pruned) in
          true≢false (sym is_committed ∙ not-true _ not_committed))
          (λ not_pruned.
          let onward = holds.grows made found.1 (omega (arith, not_pruned)) in
          omega arith)

module _ {old new : Entries} {now thread size : ℕ} {regions : List Region} {home : ℕ → ℕ → ℕ}
    (step : PruneRegions old new now thread size) (holds : RegionsHold old regions home) where
  -- the thread made the first entry of the pruned region
  head-made : Made old thread (old.head thread)
  head-made =
      let since = step.head_since in
      let bound = step.within in
      let some-entry = step.not_empty in
      record { since = omega arith; below = omega arith }

  -- all entries of the pruned region stand in the region of the first one
  together : (count : ℕ) → count < size → home thread (old.head thread + count) ≡ home thread (old.head thread)
  together = run-together holds (old.head thread) size step.head_since step.within step.acquire_first step.release_last

  inside : {number : ℕ} → old.head thread ≤ number → number < old.head thread + size → home thread number ≡ home thread (old.head thread)
  inside {number} from below =
      let place : number ≡ old.head thread + (number - old.head thread) = omega arith in
      ap (home thread) place ∙ together (number - old.head thread) (omega arith)

  -- an entry after the pruned ones stands in a later region
  outside : {number : ℕ} → old.head thread + size ≤ number → Made old thread number → home thread (old.head thread) < home thread number
  outside {number} from made =
      let some-entry = step.not_empty in
      let since = step.head_since in
      let below = made.below in
      let last : suc (old.head thread + size - 1) ≡ old.head thread + size = omega arith in
      let made_last : Made old thread (old.head thread + size - 1) = record { since = omega arith; below = omega arith } in
      let made_next : Made old thread (suc (old.head thread + size - 1)) = record { since = omega arith; below = omega arith } in
      let boundary : Boundary old thread (old.head thread + size - 1) =
      ⊎_elim
      (λ is_begin. inr (rw last is_begin))
      (λ is_end. inl is_end)
      (step.ends (omega arith)) in
      let further = holds.next made_last made_next boundary in
      let onward = holds.grows made_next made (omega arith) in
      let equal = inside {number = old.head thread + size - 1} (omega arith) (omega arith) in
      omega arith

  -- the region of the first entry that is pruned is the thread's first uncommitted one
  pub oldest-region : First (is_uncommitted_of thread) regions (home thread (old.head thread))
  oldest-region = oldest-uncommitted holds head-made

  -- committing a region changes nothing of the regions but what is committed
  same-part : {A : Type 0} (part : Region → A) → ((region : Region) → part (committed_of region) ≡ part region) →
      (place : ℕ) → part (region_at (commit_oldest thread regions) place) ≡ part (region_at regions place)
  same-part part kept place =
      by_cases
      (ℕ_discrete place (home thread (old.head thread)))
      (λ same.
      rw same
      (ap part (region_committed thread regions (home thread (old.head thread)) oldest-region) ∙
      kept (region_at regions (home thread (old.head thread)))))
      (λ differs. ap part (region_uncommitted thread regions (home thread (old.head thread)) place oldest-region differs))

  same-regions : SameRegions regions (commit_oldest thread regions)
  same-regions = record {
    length_same = commit_length thread regions;
    thread_same = same-part (λ region. region.thread) (λ region. refl);
    open_same = same-part (λ region. region.is_open) (λ region. refl);
  }

  -- the region of an entry that does not stand in the pruned one is committed just where the entry was pruned before
  elsewhere : {other number : ℕ} → Made old other number → (home other number ≡ home thread (old.head thread) → ⊥) →
      is_committed_at (commit_oldest thread regions) (home other number) ≡ ltb number (old.head other)
  elsewhere {other} {number} made differs =
      ap (λ (region : Region). region.is_committed)
      (region_uncommitted thread regions (home thread (old.head thread)) (home other number) oldest-region differs) ∙
      holds.committed made

  recommitted : (other number : ℕ) → Made old other number →
      is_committed_at (commit_oldest thread regions) (home other number) ≡ ltb number (new.head other)
  recommitted other number made =
      by_cases
      (ℕ_discrete other thread)
      (λ same. rw same (mine number (rw same at made)))
      (λ differs.
      rw (step.head_other other differs)
      (elsewhere made
      (λ equal. differs (sym (holds.owner made) ∙ (ap (λ (place : ℕ). (region_at regions place).thread) equal ∙ holds.owner head-made)))))
    where
      mine : (number : ℕ) → Made old thread number →
          is_committed_at (commit_oldest thread regions) (home thread number) ≡ ltb number (new.head thread)
      mine number made =
          rw step.head_more
          (by_cases
          (dec_lt number (old.head thread))
          (λ pruned.
          let was = holds.committed made ∙ lt-ltb _ _ pruned in
          let is-not = holds.committed head-made ∙ le-ltb (old.head thread) (old.head thread) (omega arith) in
          elsewhere made (λ equal. true≢false (sym was ∙ (ap (is_committed_at regions) equal ∙ is-not))) ∙
          (lt-ltb number (old.head thread) pruned ∙ sym (lt-ltb number (old.head thread + size) (omega arith))))
          (λ not_pruned.
          by_cases
          (dec_lt number (old.head thread + size))
          (λ below.
          rw (inside (omega (arith, not_pruned)) below, lt-ltb number (old.head thread + size) below)
          (ap (λ (region : Region). region.is_committed) (region_committed thread regions (home thread (old.head thread)) oldest-region)))
          (λ not_below.
          let after = outside (omega (arith, not_below)) made in
          elsewhere made (λ equal. omega arith) ∙
          (le-ltb number (old.head thread) (omega (arith, not_pruned)) ∙
          sym (le-ltb number (old.head thread + size) (omega (arith, not_below)))))))

  -- what isn't ended is not pruned
  still-live : (other number : ℕ) → Unended old other number → new.head other ≤ number
  still-live other number last =
      by_cases
      (ℕ_discrete other thread)
      (λ same. rw (same, step.head_more) (mine (rw same at last)))
      (λ differs. rw (step.head_other other differs) (holds.last_live last))
    where
      mine : Unended old thread number → old.head thread + size ≤ number
      mine last =
          let is_last = last.is_last in
          ⊎_elim
          (λ more. omega arith)
          (λ is_end.
          by_cases
          (dec_lt (old.head thread + size) (old.next thread))
          (λ more. omega arith)
          (λ not_more.
          let bound = step.within in
          let place : old.head thread + size - 1 ≡ number = omega (arith, not_more) in
          absurd (true≢false (sym (rw place at is_end) ∙ last.no_release))))
          step.finished

  -- PRUNE commits the region of the entries that it prunes
  pub regions-prune : RegionsHold new (commit_oldest thread regions) home
  regions-prune = regions_recommit step.keeps same-regions recommitted still-live holds
