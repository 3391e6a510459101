-- How many LOGREL steps of a lock stand at a pruned entry: what a longer history, and a PRUNE, do to that number.
use Prim.Native.Nat.{ℕ, suc, ◌+◌, ◌-◌, ◌≤◌}
use native.Mathlib.Decide.{dec_lt, ℕ_discrete}
use native.Mathlib.Omega.{arith}
use mathlib.Core.Path.{◌≡◌, sym, ap, ◌∙◌}
use mathlib.Core.Bool.{Bool, true, false, true≢false}
use mathlib.Core.List.{List}
use mathlib.Core.Logic.{◌⊎◌, ⊎_elim, by_cases}
use lib.ListN.{length}
use lib.Dec.{ltb}
use borrow.Author.Tests.{lt-ltb, le-ltb}
use Rattle.answer.specs.Lists.{count_below}
use Rattle.answer.proofs.BelowLaws.{count_below-same, count_below-more}
use Rattle.undo.specs.Regions.{is_release}
use Rattle.event.specs.declared.Event.TheVariants.{Release}
use Rattle.event.specs.declared.SyncCount.{SyncCount}
use Rattle.atomicity.specs.History.{Fed, step_at}
use Rattle.atomicity.proofs.Logged.{Entries, Made, Grows}
use Rattle.atomicity.proofs.Ordered.{and_then, accepted-inside}
use Rattle.atomicity.proofs.Places.{PlacesHold, made_by, last_of, length-then, step-before, step-new, last-was}
use Rattle.atomicity.proofs.RegionsPrune.{PruneRegions}
use Rattle.atomicity.proofs.ReleaseSteps.{LogsRelease, if_releases, releases-then, releases_agree, releases_fail, stands_at, made_at}
use Rattle.atomicity.proofs.Times.{TimesHold}

-- the step at the place is an accepted LOGREL of the lock, and its entry is below its thread's head
abbrev pub pruned_test : Entries → (ℕ → ℕ) → List Fed → ℕ → ℕ → Bool
pruned_test entries heads history lock place =
    if_releases (step_at history place) lock (ltb (last_of entries history place) (heads (step_at history place).thread))

-- each lock's number is how many of its accepted LOGREL steps have an entry below their thread's head
pub record Counted (entries : Entries) (heads : ℕ → ℕ) (history : List Fed) (pruned : ℕ → ℕ) : Type 0 where
  pub number : (lock : ℕ) → pruned lock ≡ count_below (length history) (pruned_test entries heads history lock)

-- where heads and numbers stay the same, the numbers count the pruned LOGREL steps still
pub counted_same : {entries : Entries} {heads after : ℕ → ℕ} {history : List Fed} {pruned now : ℕ → ℕ} →
    ((thread : ℕ) → after thread ≡ heads thread) → ((lock : ℕ) → now lock ≡ pruned lock) →
    Counted entries heads history pruned → Counted entries after history now
counted_same {entries} {heads} {after} {history} same same_number counted = record {
  number = λ lock.
      same_number lock ∙
      (counted.number lock ∙
      count_below-same
      (length history)
      (pruned_test entries heads history lock)
      (pruned_test entries after history lock)
      (λ place under. rw (same (step_at history place).thread)));
}

-- one more step leaves the numbers as they count, if it is no LOGREL or its entry is not pruned
pub counted_longer : {old new : Entries} {heads : ℕ → ℕ} {history : List Fed} {pruned : ℕ → ℕ} (fed : Fed) →
    Grows old new (length history) →
    ((lock : ℕ) → LogsRelease fed lock → heads fed.thread ≤ made_by new (and_then history fed) fed.thread (suc (length history))) →
    Counted old heads history pruned → Counted new heads (and_then history fed) pruned
unfolding count_below
counted_longer {old} {new} {heads} {history} fed grows not_pruned counted = record {
  number = λ lock.
      let before = counted.number lock in
      let longer : count_below (length history) (pruned_test old heads history lock) ≡
      count_below (length history) (pruned_test new heads (and_then history fed) lock) =
      count_below-same
      (length history)
      (pruned_test old heads history lock)
      (pruned_test new heads (and_then history fed) lock)
      (λ place before. rw (last-was history fed grows {place = place} before, step-before history fed before)) in
      rw (length-then history fed, new-fails lock) (omega arith);
}
  where
    new-fails : (lock : ℕ) → pruned_test new heads (and_then history fed) lock (length history) ≡ false
    new-fails lock =
        rw (step-new history fed)
        (releases_fail fed lock
        (ltb (made_by new (and_then history fed) fed.thread (suc (length history))) (heads fed.thread))
        (λ releases. le-ltb _ _ (not_pruned lock releases)))

-- a PRUNE counts one more RELEASE of a lock if the region ends in one, and no more of another
abbrev pub PrunedOne : Entries → ℕ → ℕ → ℕ → ℕ → ℕ → Type 0
PrunedOne entries thread last lock number after =
    ((count : SyncCount) × (entries.event thread last ≡ Release lock count) × (after ≡ suc number)) ⊎
    (((count : SyncCount) → entries.event thread last ≡ Release lock count → ⊥) × (after ≡ number))

module _ {old new : Entries} {now thread size : ℕ} {history : List Fed} {counts : ℕ → ℕ} (step : PruneRegions old new now thread size)
    (places : PlacesHold history old counts) (times : TimesHold history old) where
  abbrev last : ℕ
  last = old.head thread + size - 1

  -- a LOGREL step that does not stand at the region's last entry is as pruned as it was
  elsewhere : (lock place : ℕ) →
      (LogsRelease (step_at history place) lock → (step_at history place).thread ≡ thread → last_of old history place ≡ last → ⊥) →
      pruned_test old old.head history lock place ≡ pruned_test old new.head history lock place
  elsewhere lock place not_last =
      releases_agree (step_at history place) lock _ _ (λ releases.
      by_cases
      (ℕ_discrete (step_at history place).thread thread)
      (λ same.
      let says = (stands_at places times releases).is_entry.says in
      rw (same, step.head_more)
      (mine (made_by old history thread (suc place)) (ap is_release (rw same at says))
      (λ is_last. not_last releases same (rw same is_last))))
      (λ differs. rw (step.head_other _ differs)))
    where
      mine : (number : ℕ) → is_release (old.event thread number) ≡ true → (number ≡ last → ⊥) →
          ltb number (old.head thread) ≡ ltb number (old.head thread + size)
      mine number ends not_last =
          by_cases
          (dec_lt number (old.head thread))
          (λ pruned. lt-ltb _ _ pruned ∙ sym (lt-ltb number (old.head thread + size) (omega arith)))
          (λ not_pruned.
          le-ltb number (old.head thread) (omega (arith, not_pruned)) ∙
          sym (le-ltb number (old.head thread + size) (outside (omega (arith, not_pruned)))))
        where
          outside : old.head thread ≤ number → old.head thread + size ≤ number
          outside from =
              by_cases
              (dec_lt (suc number) (old.head thread + size))
              (λ before. absurd (true≢false (sym ends ∙ step.release_last number from before)))
              (λ not_before. omega (arith, not_before, not_last))

  last_made : Made old thread last
  last_made =
      let since = step.head_since in
      let some-entry = step.not_empty in
      let within = step.within in
      record { since = omega arith; below = omega arith }

  pub counted-prune : {pruned after : ℕ → ℕ} →
      ((lock : ℕ) → PrunedOne old thread last lock (pruned lock) (after lock)) →
      Counted old old.head history pruned → Counted old new.head history after
  counted-prune {pruned} {after} cases counted = record { number = λ lock. ⊎_elim (ended lock) (unended lock) (cases lock) }
    where
      unended : (lock : ℕ) →
          ((count : SyncCount) → old.event thread last ≡ Release lock count → ⊥) × (after lock ≡ pruned lock) →
          after lock ≡ count_below (length history) (pruned_test old new.head history lock)
      unended lock same =
          same.1 ∙
          (counted.number lock ∙
          count_below-same (length history) (pruned_test old old.head history lock)
          (pruned_test old new.head history lock) (λ place under.
          elsewhere lock place (λ releases is_thread is_last.
          let found = stands_at places times releases in
          same.0 found.count (rw (is_last, is_thread) at found.is_entry.says))))

      ended : (lock : ℕ) →
          (count : SyncCount) × (old.event thread last ≡ Release lock count) × (after lock ≡ suc (pruned lock)) →
          after lock ≡ count_below (length history) (pruned_test old new.head history lock)
      ended lock ends =
          let maker = made_at places times (record { made = last_made; says = ends.1 }) in
          let place = old.time thread last in
          let some-entry = step.not_empty in
          ends.2 ∙
          (ap suc (counted.number lock) ∙
          sym
          (count_below-more
          (length history)
          (pruned_test old old.head history lock)
          (pruned_test old new.head history lock)
          place
          (accepted-inside history place maker.is_step.is_accepted)
          (releases-then maker.is_step _ ∙ rw (maker.is_last, maker.is_thread) (le-ltb last (old.head thread) (omega arith)))
          (releases-then maker.is_step _ ∙
          rw (maker.is_last, maker.is_thread, step.head_more) (lt-ltb last (old.head thread + size) (omega arith)))
          (λ other under differs.
          elsewhere lock other (λ releases is_thread is_last.
          differs (sym (rw (is_last, is_thread) at (stands_at places times releases).is_time))))))
