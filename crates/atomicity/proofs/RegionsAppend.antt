-- An entry more: a LOG and a LOGREL join the thread's open region or one more, an ACQUIRE one more, and the regions hold.
use Prim.Native.Nat.{ℕ, suc, ◌-◌, ◌≤◌, ◌<◌}
use native.Mathlib.Decide.{dec_lt, ℕ_discrete}
use native.Mathlib.Omega.{arith}
use mathlib.Core.Path.{◌≡◌, refl, sym, ap, ◌∙◌}
use mathlib.Core.Bool.{Bool, true, false, cond, not, ◌&&◌, true≢false}
use mathlib.Core.List.{List, [], ◌∷◌, ◌++◌, map}
use mathlib.Core.Logic.{◌⊎◌, inl, inr, ⊎_elim, by_cases}
use Rattle.std.specs.Prelude.{Some}
use lib.Dec.{eqb, ltb}
use lib.ListN.{length}
use borrow.Author.Tests.{le-ltb, eq-eqb, eqb-true, not-true}
use Rattle.undo.specs.Regions.{is_acquire, is_release}
use Rattle.event.specs.declared.Event.{Event}
use Rattle.event.specs.declared.Event.TheVariants.{Empty, Store, Acquire, Release}
use Rattle.event.specs.declared.SyncCount.{SyncCount}
use Rattle.reference.specs.Reference.{Region, Book, end_of, feed_log, feed_acquire, feed_log_release, joins, is_committed_at}
use Rattle.atomicity.proofs.Logged.{Entries, Made, Appends, made-cases, new-made}
use Rattle.atomicity.proofs.BookLaws.{region_at, ended_length, region-ended, ended_mine, ended-other, snoc_length, region_old}
use Rattle.atomicity.proofs.BookLaws.{region_new, test-holds, test-fails}
use Rattle.atomicity.proofs.Regions.{Unended, Boundary, RegionsHold, unended_was, unended_still, unended_or_not, boundary_was}
use Rattle.atomicity.proofs.Regions.{open_is, open-is-none, joined_place, joins_log, joins_acquire, joins_release}

-- what an append asks and does: the entries that were there stand where they stood, and the new one at this place
pub record AppendRegions (old new : Entries) (now thread : ℕ) (event : Event) (home after : ℕ → ℕ → ℕ) (place : ℕ) : Type 0 where
  pub appends : Appends old new now thread event
  pub head_next : old.head thread ≤ old.next thread
  pub home_kept : (other number : ℕ) → Made old other number → after other number ≡ home other number
  pub home_new : after thread (old.next thread) ≡ place

-- what becomes of the regions, place by place, when an entry of this thread joins the one at this place
pub record JoinsAt (old : Entries) (thread : ℕ) (event : Event) (regions joined : List Region) (home : ℕ → ℕ → ℕ) (place : ℕ) : Type 0 where
  pub longer : length regions ≤ length joined
  pub in_range : place < length joined
  pub only : (other : ℕ) → other < length joined → (other < length regions) ⊎ (other ≡ place)
  pub owner : (region_at joined place).thread ≡ thread
  pub uncommitted : is_committed_at joined place ≡ false
  pub thread_same : (other : ℕ) → other < length regions → (region_at joined other).thread ≡ (region_at regions other).thread
  pub committed_same : (other : ℕ) → other < length regions → is_committed_at joined other ≡ is_committed_at regions other
  -- the region that is joined is the thread's open one, unless the entry ends it; the other threads' open regions stay
  pub open_self : (region_at joined place).is_open ≡ not (is_release event)
  pub open_only : (other : ℕ) → other < length joined → (region_at joined other).thread ≡ thread →
      (region_at joined other).is_open ≡ true → other ≡ place
  pub open_other : (other : ℕ) → other < length regions → ((region_at regions other).thread ≡ thread → ⊥) →
      (region_at joined other).is_open ≡ (region_at regions other).is_open
  -- the region that is joined is that of the thread's last entry, unless a region ended after that entry
  pub same_region : (number : ℕ) → Unended old thread number → is_acquire event ≡ false → home thread number ≡ place
  pub next_region : (number : ℕ) → Made old thread number → suc number ≡ old.next thread →
      (is_release (old.event thread number) ≡ true) ⊎ (is_acquire event ≡ true) → length regions ≤ place

module _ {old new : Entries} {now thread : ℕ} {event : Event} {regions joined : List Region} {home after : ℕ → ℕ → ℕ}
    {place : ℕ} (step : AppendRegions old new now thread event home after place)
    (joining : JoinsAt old thread event regions joined home place) (holds : RegionsHold old regions home) where
  -- what holds of the old entries' places and of the new one's holds of each entry's
  by-entry : (P : ℕ → ℕ → ℕ → Type 0) →
      ((other number : ℕ) → Made old other number → P other number (home other number)) →
      P thread (old.next thread) place → {other number : ℕ} → Made new other number →
      P other number (after other number)
  by-entry P was is {other} {number} made =
      ⊎_elim
      (λ before. rw (step.home_kept other number before) (was other number before))
      (λ at. rw (at.0, at.1, step.home_new) is)
      (made-cases step.appends made)

  -- an unended entry is the new one or another thread's
  by-unended : (P : ℕ → ℕ → ℕ → Type 0) →
      ((other number : ℕ) → (other ≡ thread → ⊥) → Unended old other number → P other number (home other number)) →
      (is_release event ≡ false → P thread (old.next thread) place) → {other number : ℕ} → Unended new other number →
      P other number (after other number)
  by-unended P was is {other} {number} last =
      by_cases
      (ℕ_discrete other thread)
      (λ same.
      let more = step.appends.next_more in
      let is_last : suc number ≡ new.next thread = rw same at last.is_last in
      let number_is : number ≡ old.next thread = omega arith in
      let no_release : is_release (new.event thread (old.next thread)) ≡ false = rw number_is at (rw same at last.no_release) in
      rw (same, number_is, step.home_new) (is (sym (ap is_release step.appends.says_new) ∙ no_release)))
      (λ differs.
      let unchanged = step.appends.next_other other differs in
      let before : Made old other number =
      record { since = rw step.appends.grows.before_same at last.made.since; below = rw unchanged at last.made.below } in
      rw (step.home_kept other number before) (was other number differs (unended_was step.appends.grows unchanged before last)))

  -- another thread's last entry stays its last one, in the region where it stood
  still-last : {other found : ℕ} → new.next other ≡ old.next other →
      (number : ℕ) × Unended old other number × (home other number ≡ found) →
      (number : ℕ) × Unended new other number × (after other number ≡ found)
  still-last {other} unchanged last = (
    last.0,
    unended_still step.appends.grows unchanged last.1,
    step.home_kept other last.0 last.1.made ∙ last.2,
  )

  -- the thread's last entry stands in the region that is joined or in one before
  last-before : (number : ℕ) → Made old thread number → suc number ≡ old.next thread → home thread number ≤ place
  last-before number made is_last = by-ends (is_release (old.event thread number)) refl (is_acquire event) refl
    where
      after-boundary : (is_release (old.event thread number) ≡ true) ⊎ (is_acquire event ≡ true) → home thread number ≤ place
      after-boundary boundary =
          let further = joining.next_region number made is_last boundary in
          let under = holds.in_range made in
          omega arith

      by-ends : (ends : Bool) → is_release (old.event thread number) ≡ ends → (begins : Bool) →
          is_acquire event ≡ begins → home thread number ≤ place
      by-ends true is_end begins is_begin = after-boundary (inl is_end)
      by-ends false is_end true is_begin = after-boundary (inr is_begin)
      by-ends false is_end false is_begin =
          let equal = joining.same_region number (record { made = made; is_last = is_last; no_release = is_end }) is_begin in
          omega arith

  -- each entry that the thread had made stands in the region that is joined or in one before
  all-before : (number : ℕ) → Made old thread number → home thread number ≤ place
  all-before number made =
      let since = made.since in
      let below = made.below in
      let last : Made old thread (old.next thread - 1) = record { since = omega arith; below = omega arith } in
      let onward = holds.grows made last (omega arith) in
      let bound = last-before (old.next thread - 1) last (omega arith) in
      omega arith

  -- two entries of one thread, one after the other, were both there, or the second is the new one
  by-neighbours : (P : ℕ → ℕ → ℕ → ℕ → Type 0) →
      ((other number : ℕ) → Made old other number → Made old other (suc number) →
      P other number (home other number) (home other (suc number))) →
      ((number : ℕ) → Made old thread number → suc number ≡ old.next thread → P thread number (home thread number) place) →
      {other number : ℕ} → Made new other number → Made new other (suc number) →
      P other number (after other number) (after other (suc number))
  by-neighbours P both newer {other} {number} made made_next =
      ⊎_elim
      (λ next.
      let since = rw step.appends.grows.before_same at made.since in
      let below = next.below in
      let before : Made old other number = record { since = since; below = omega arith } in
      rw (step.home_kept other number before, step.home_kept other (suc number) next) (both other number before next))
      (λ at.
      let since = rw (step.appends.grows.before_same, at.0) at made.since in
      let is_last = at.1 in
      let before : Made old thread number = record { since = since; below = omega arith } in
      let home-is : after thread (suc number) ≡ place = ap (after thread) is_last ∙ step.home_new in
      rw (at.0, home-is, step.home_kept thread number before) (newer number before is_last))
      (made-cases step.appends made_next)

  pub regions-join : RegionsHold new joined after
  regions-join = record {
    in_range =
        by-entry
        (λ other number at. at < length joined)
        (λ other number before. let under = holds.in_range before in let longer = joining.longer in omega arith)
        joining.in_range;
    owner =
        by-entry
        (λ other number at. (region_at joined at).thread ≡ other)
        (λ other number before. joining.thread_same (home other number) (holds.in_range before) ∙ holds.owner before)
        joining.owner;
    committed =
        by-entry
        (λ other number at. is_committed_at joined at ≡ ltb number (new.head other))
        (λ other number before.
        joining.committed_same (home other number) (holds.in_range before) ∙ rw (step.appends.head_same other) (holds.committed before))
        (joining.uncommitted ∙ rw (step.appends.head_same thread) (sym (le-ltb _ _ step.head_next)));
    open_last = λ {thread = other} {place = found} under is_owner is_open.
        by_cases
        (ℕ_discrete other thread)
        (λ same.
        let found-is = joining.open_only found under (is_owner ∙ same) is_open in
        let ends : not (is_release event) ≡ true = sym joining.open_self ∙ rw found-is at is_open in (
          old.next thread,
          rw same (record {
            made = new-made step.appends;
            is_last = sym step.appends.next_more;
            no_release = ap is_release step.appends.says_new ∙ not-true _ ends;
          }),
          rw same (step.home_new ∙ sym found-is),
        ))
        (λ differs.
        let in_old : found < length regions =
        ⊎_elim
        (λ before. before)
        (λ at. absurd (differs (sym is_owner ∙ (ap (λ (p : ℕ). (region_at joined p).thread) at ∙ joining.owner))))
        (joining.only found under) in
        let was_owner = sym (joining.thread_same found in_old) ∙ is_owner in
        let last = holds.open_last in_old was_owner (sym (joining.open_other found in_old (λ mine. differs (sym was_owner ∙ mine))) ∙ is_open) in
        still-last (step.appends.next_other other differs) last);
    last_open =
        by-unended
        (λ other number at. (region_at joined at).is_open ≡ true)
        (λ other number differs last.
        joining.open_other (home other number) (holds.in_range last.made) (λ mine. differs (sym (holds.owner last.made) ∙ mine)) ∙
        holds.last_open last)
        (λ no_release. joining.open_self ∙ ap not no_release);
    last_live =
        by-unended
        (λ other number at. new.head other ≤ number)
        (λ other number differs last. rw (step.appends.head_same other) (holds.last_live last))
        (λ no_release. rw (step.appends.head_same thread) step.head_next);
    grows = λ {thread = other} {number} {later} made made_later before.
        ⊎_elim
        (λ was_later.
        let since = rw step.appends.grows.before_same at made.since in
        let below = was_later.below in
        let was_made : Made old other number = record { since = since; below = omega arith } in
        rw (step.home_kept other number was_made, step.home_kept other later was_later) (holds.grows was_made was_later before))
        (λ at.
        ⊎_elim
        (λ was_made.
        let mine : Made old thread number = rw at.0 at was_made in
        rw (at.0, at.1, step.home_new, step.home_kept thread number mine) (all-before number mine))
        (λ too. rw (at.1, too.1) (omega arith))
        (made-cases step.appends made))
        (made-cases step.appends made_later);
    same =
        by-neighbours
        (λ other number at at_next. is_release (new.event other number) ≡ false →
        is_acquire (new.event other (suc number)) ≡ false → at ≡ at_next)
        (λ other number made made_next no_release no_acquire.
        holds.same
        made
        made_next
        (sym (ap is_release (step.appends.grows.says_same other number made)) ∙ no_release)
        (sym (ap is_acquire (step.appends.grows.says_same other (suc number) made_next)) ∙ no_acquire))
        (λ number made is_last no_release no_acquire.
        joining.same_region
        number
        (record {
          made =
              made;
          is_last = is_last;
          no_release = sym (ap is_release (step.appends.grows.says_same thread number made)) ∙ no_release;
        })
        (sym (ap is_acquire (ap (new.event thread) is_last ∙ step.appends.says_new)) ∙ no_acquire));
    next =
        by-neighbours
        (λ other number at at_next. Boundary new other number → at < at_next)
        (λ other number made made_next boundary. holds.next made made_next (boundary_was step.appends.grows made made_next boundary))
        (λ number made is_last boundary.
        let under = holds.in_range made in
        let further =
        joining.next_region
        number
        made
        is_last
        (⊎_elim
        (λ is_end. inl (sym (ap is_release (step.appends.grows.says_same thread number made)) ∙ is_end))
        (λ is_begin. inr (sym (ap is_acquire (ap (new.event thread) is_last ∙ step.appends.says_new)) ∙ is_begin))
        boundary) in
        omega arith);
    inhabited = λ {thread = other} {place = found} under is_owner.
        ⊎_elim
        (λ in_old.
        let entry = holds.inhabited in_old (sym (joining.thread_same found in_old) ∙ is_owner) in
        (entry.0, step.appends.grows.still other entry.0 entry.1, step.home_kept other entry.0 entry.1 ∙ entry.2))
        (λ at.
        let mine : other ≡ thread = sym is_owner ∙ (ap (λ (p : ℕ). (region_at joined p).thread) at ∙ joining.owner) in
        (old.next thread, rw mine (new-made step.appends), rw mine (step.home_new ∙ sym at)))
        (joining.only found under);
  }

-- the regions with no open one of the thread, and else the same
record Closes (thread : ℕ) (regions closed : List Region) : Type 0 where
  length_same : length closed ≡ length regions
  thread_same : (other : ℕ) → other < length regions → (region_at closed other).thread ≡ (region_at regions other).thread
  committed_same : (other : ℕ) → other < length regions → is_committed_at closed other ≡ is_committed_at regions other
  open_none : (other : ℕ) → other < length regions → (region_at closed other).thread ≡ thread → (region_at closed other).is_open ≡ true → ⊥
  open_other : (other : ℕ) → other < length regions → ((region_at regions other).thread ≡ thread → ⊥) →
      (region_at closed other).is_open ≡ (region_at regions other).is_open

-- where the last entry ended its region, the regions have no open one of the thread already
closes_ended : {entries : Entries} {regions : List Region} {home : ℕ → ℕ → ℕ} {thread : ℕ} →
    RegionsHold entries regions home → ((number : ℕ) → Unended entries thread number → ⊥) →
    Closes thread regions regions
closes_ended holds ended = record {
  length_same = refl;
  thread_same = λ other under. refl;
  committed_same = λ other under. refl;
  open_none = λ other under is_owner is_open. let found = holds.open_last under is_owner is_open in ended found.0 found.1;
  open_other = λ other under differs. refl;
}

-- once a thread's open region is ended, the regions have no open one of the thread, and are else the same
closes_open : (thread : ℕ) (regions : List Region) → Closes thread regions (map (end_of thread) regions)
closes_open thread regions = record {
  length_same = ended_length thread regions;
  thread_same = λ other under. ap (λ (region : Region). region.thread) (region-ended thread regions other under);
  committed_same = λ other under. ap (λ (region : Region). region.is_committed) (region-ended thread regions other under);
  open_none = λ other under is_owner is_open.
      let ended = region-ended thread regions other under in
      let mine = sym (ap (λ (region : Region). region.thread) ended) ∙ is_owner in
      true≢false (sym is_open ∙ (ap (λ (region : Region). region.is_open) ended ∙ ended_mine thread (region_at regions other) mine));
  open_other = λ other under differs.
      ap (λ (region : Region). region.is_open) (region-ended thread regions other under) ∙
      ended-other thread (region_at regions other) differs;
}

-- the region that opens
abbrev opened : ℕ → Region
opened thread = record { thread = thread; is_open = true; is_committed = false }

-- one region more, for an entry that doesn't go on an older one and doesn't end it
joins_another : {old : Entries} {thread : ℕ} {event : Event} {regions closed : List Region} {home : ℕ → ℕ → ℕ} →
    Closes thread regions closed → is_release event ≡ false →
    ((number : ℕ) → Unended old thread number → is_acquire event ≡ false → ⊥) →
    JoinsAt old thread event regions (closed ++ (opened thread ∷ [])) home (length regions)
joins_another {old} {thread} {event} {regions} {closed} {home} closes no_release another = record {
  longer = omega (arith, longer);
  in_range = omega (arith, longer);
  only = λ other under. cases other under;
  owner = ap (λ (region : Region). region.thread) newest;
  uncommitted = ap (λ (region : Region). region.is_committed) newest;
  thread_same = λ other under. ap (λ (region : Region). region.thread) (older other under) ∙ closes.thread_same other under;
  committed_same = λ other under. ap (λ (region : Region). region.is_committed) (older other under) ∙ closes.committed_same other under;
  open_self = ap (λ (region : Region). region.is_open) newest ∙ sym (ap not no_release);
  open_only = λ other under is_owner is_open.
      ⊎_elim
      (λ in_old.
      let same = older other in_old in
      absurd (closes.open_none
      other
      in_old
      (sym (ap (λ (region : Region). region.thread) same) ∙ is_owner)
      (sym (ap (λ (region : Region). region.is_open) same) ∙ is_open)))
      (λ at. at)
      (cases other under);
  open_other = λ other under differs. ap (λ (region : Region). region.is_open) (older other under) ∙ closes.open_other other under differs;
  same_region = λ number last no_acquire. absurd (another number last no_acquire);
  next_region = λ number made is_last boundary. omega arith;
}
  where
    longer : length (closed ++ (opened thread ∷ [])) ≡ suc (length regions)
    longer = snoc_length closed (opened thread) ∙ ap suc closes.length_same

    cases : (other : ℕ) → other < length (closed ++ (opened thread ∷ [])) → (other < length regions) ⊎ (other ≡ length regions)
    cases other under =
        by_cases
        (dec_lt other (length regions))
        (λ in_old. inl in_old)
        (λ not_old. inr (omega (arith, longer, not_old)))

    newest : region_at (closed ++ (opened thread ∷ [])) (length regions) ≡ opened thread
    newest = rw (← closes.length_same) (region_new closed (opened thread))

    older : (other : ℕ) → other < length regions → region_at (closed ++ (opened thread ∷ [])) other ≡ region_at closed other
    older other under = region_old closed (opened thread) other (rw closes.length_same under)

-- the open region, for an entry that goes on it and doesn't end it
joins-open : {old : Entries} {thread last : ℕ} {event : Event} {regions : List Region} {home : ℕ → ℕ → ℕ} →
    RegionsHold old regions home → Unended old thread last → is_acquire event ≡ false → is_release event ≡ false →
    JoinsAt old thread event regions regions home (home thread last)
joins-open {old} {thread} {last} {event} {regions} {home} holds unended no_acquire no_release = record {
  longer = omega arith;
  in_range = holds.in_range unended.made;
  only = λ other under. inl under;
  owner = holds.owner unended.made;
  uncommitted = holds.committed unended.made ∙ le-ltb _ _ (holds.last_live unended);
  thread_same = λ other under. refl;
  committed_same = λ other under. refl;
  open_self = holds.last_open unended ∙ sym (ap not no_release);
  open_only = λ other under is_owner is_open.
      let found = holds.open_last under is_owner is_open in
      sym found.2 ∙ ap (home thread) (one_last found.1);
  open_other = λ other under differs. refl;
  same_region = λ number unended_too _. ap (home thread) (one_last unended_too);
  next_region = λ number made is_last boundary.
      let same : last ≡ number = (let one = unended.is_last in omega arith) in
      ⊎_elim
      (λ is_end. absurd (true≢false (sym (rw (← same) at is_end) ∙ unended.no_release)))
      (λ is_begin. absurd (true≢false (sym is_begin ∙ no_acquire)))
      boundary;
}
  where
    one_last : {number : ℕ} → Unended old thread number → number ≡ last
    one_last other = let one = other.is_last in let two = unended.is_last in omega arith

-- the region that is joined, ended by a RELEASE
joins_ending : {old : Entries} {thread place : ℕ} {event release : Event} {regions joined : List Region} {home : ℕ → ℕ → ℕ} →
    is_acquire event ≡ is_acquire release → is_release release ≡ true →
    JoinsAt old thread event regions joined home place →
    JoinsAt old thread release regions (map (end_of thread) joined) home place
joins_ending {old} {thread} {place} {event} {release} {regions} {joined} {home} alike ends joining = record {
  longer = rw closes.length_same joining.longer;
  in_range = rw closes.length_same joining.in_range;
  only = λ other under. joining.only other (rw closes.length_same at under);
  owner = closes.thread_same place joining.in_range ∙ joining.owner;
  uncommitted = closes.committed_same place joining.in_range ∙ joining.uncommitted;
  thread_same = λ other under. closes.thread_same other (within other under) ∙ joining.thread_same other under;
  committed_same = λ other under. closes.committed_same other (within other under) ∙ joining.committed_same other under;
  open_self =
      ap (λ (region : Region). region.is_open) (region-ended thread joined place joining.in_range) ∙
      (ended_mine thread (region_at joined place) joining.owner ∙ sym (ap not ends));
  open_only = λ other under is_owner is_open. absurd (closes.open_none other (rw closes.length_same at under) is_owner is_open);
  open_other = λ other under differs.
      closes.open_other other (within other under) (λ mine. differs (sym (joining.thread_same other under) ∙ mine)) ∙
      joining.open_other other under differs;
  same_region = λ number last no_acquire. joining.same_region number last (alike ∙ no_acquire);
  next_region = λ number made is_last boundary.
      joining.next_region
      number
      made
      is_last
      (⊎_elim (λ is_end. inl is_end) (λ is_begin. inr (alike ∙ is_begin)) boundary);
}
  where
    closes : Closes thread joined (map (end_of thread) joined)
    closes = closes_open thread joined

    within : (other : ℕ) → other < length regions → other < length joined
    within other under = let longer = joining.longer in omega arith

-- an entry that begins and ends nothing joins as the book says of a LOG
joins_or_opens : {old : Entries} {thread : ℕ} {event : Event} {home : ℕ → ℕ → ℕ} (book : Book) →
    RegionsHold old book.regions home → is_acquire event ≡ false → is_release event ≡ false →
    JoinsAt old thread event book.regions (feed_log book thread).regions home (joined_place book thread)
joins_or_opens {old} {thread} book holds no_acquire no_release =
    ⊎_elim
    (λ last. rw (open_is book holds last.1) (joins-open holds last.1 no_acquire no_release))
    (λ ended. rw (open-is-none book holds {thread = thread} ended)
    (joins_another (closes_ended holds ended) no_release (λ number last _. ended number last)))
    (unended_or_not old thread)

-- a LOG joins the open region, or one more
pub regions_log : {old new : Entries} {now thread cell content : ℕ} {home after : ℕ → ℕ → ℕ} (book : Book) →
    AppendRegions old new now thread (Store cell content) home after (joined_place book thread) →
    RegionsHold old book.regions home → RegionsHold new (feed_log book thread).regions after
regions_log book step holds = regions-join step (joins_or_opens book holds refl refl) holds

-- an ACQUIRE ends the open region and joins one more
pub regions_acquire : {old new : Entries} {now thread lock : ℕ} {count : SyncCount} {home after : ℕ → ℕ → ℕ} (book : Book) →
    AppendRegions old new now thread (Acquire lock count) home after (length book.regions) →
    RegionsHold old book.regions home → RegionsHold new (feed_acquire book thread).regions after
regions_acquire {thread} book step holds =
    regions-join step (joins_another (closes_open thread book.regions) refl (λ number last no_acquire. true≢false no_acquire)) holds

-- a LOGREL joins the open region, or one more, and ends it
pub regions_release : {old new : Entries} {now thread lock : ℕ} {count : SyncCount} {home after : ℕ → ℕ → ℕ} (book : Book) →
    AppendRegions old new now thread (Release lock count) home after (joined_place book thread) →
    RegionsHold old book.regions home → RegionsHold new (feed_log_release book thread).regions after
regions_release book step holds =
    regions-join step (joins_ending refl refl (joins_or_opens {event = Empty} book holds refl refl)) holds

-- the book says that LOG (2), ACQUIRE (4) and LOGREL (5) joined the region in which the new entry stands
pub joins_log_home : {old new : Entries} {now thread : ℕ} {event : Event} {home after : ℕ → ℕ → ℕ} (book : Book) →
    AppendRegions old new now thread event home after (joined_place book thread) →
    joins book 2 thread ≡ Some (after thread (old.next thread))
joins_log_home {thread} book step = joins_log book thread ∙ ap Some (sym step.home_new)

pub joins_acquire_home : {old new : Entries} {now thread : ℕ} {event : Event} {home after : ℕ → ℕ → ℕ} (book : Book) →
    AppendRegions old new now thread event home after (length book.regions) →
    joins book 4 thread ≡ Some (after thread (old.next thread))
joins_acquire_home {thread} book step = joins_acquire book thread ∙ ap Some (sym step.home_new)

pub joins_release_home : {old new : Entries} {now thread : ℕ} {event : Event} {home after : ℕ → ℕ → ℕ} (book : Book) →
    AppendRegions old new now thread event home after (joined_place book thread) →
    joins book 5 thread ≡ Some (after thread (old.next thread))
joins_release_home {thread} book step = joins_release book thread ∙ ap Some (sym step.home_new)

-- the place of each entry's region, with one more entry's
abbrev pub with_home : (ℕ → ℕ → ℕ) → ℕ → ℕ → ℕ → ℕ → ℕ → ℕ
with_home home thread number place other asked = cond (eqb other thread && eqb asked number) place (home other asked)

-- with the new entry's region added, the entries that were there stand where they stood, and the new one at this place
pub append_homes : {old new : Entries} {now thread : ℕ} {event : Event} (home : ℕ → ℕ → ℕ) (place : ℕ) →
    Appends old new now thread event → old.head thread ≤ old.next thread →
    AppendRegions old new now thread event home (with_home home thread (old.next thread) place) place
append_homes {old} {new} {now} {thread} home place appends head_next = record {
  appends = appends;
  head_next = head_next;
  home_kept = λ other number made.
      rw (test-fails {thread = thread} {other = other} {test = eqb number (old.next thread)} (elsewhere other number made));
  home_new = rw (test-holds {thread = thread} {other = thread} refl (eq-eqb (old.next thread) (old.next thread) refl));
}
  where
    elsewhere : (other number : ℕ) → Made old other number → other ≡ thread → eqb number (old.next thread) ≡ true → ⊥
    elsewhere other number made same equal =
        let below : number < old.next thread = rw same at made.below in
        let number_is = eqb-true number (old.next thread) equal in
        omega arith
