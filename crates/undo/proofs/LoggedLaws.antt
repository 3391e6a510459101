-- The current region's entry of a cell, read on the entries that the thread ever made.
use Rattle.std.specs.Prelude.{None, Option, Some}
use Prim.Native.Nat.{ℕ, zero, suc, ◌+◌, ◌<◌, ◌≤◌}
use mathlib.Core.Bool.{Bool, true, false, cond}
use mathlib.Core.Path.{◌≡◌, refl, ap, sym, ◌∙◌, subst}
use mathlib.Core.Logic.{◌≢◌, ◌⊎◌, inl, inr, ⊎_elim, by_cases}
use native.Mathlib.Decide.{ℕ_discrete}
use native.Mathlib.Nat.{add-suc}
use native.Mathlib.Omega.{arith}
use borrow.Author.Tests.{eqb-true, eqb-false}
use lib.Dec.{eqb}
use Rattle.ring.specs.Ring.{lsn}
use Rattle.ring.specs.declared.Lsn.{Lsn}
use Rattle.thread_log.specs.Entries.{live_count}
use Rattle.undo.specs.Regions.{is_acquire, is_release, searched, logged_among, logged_of}
use Rattle.event.specs.declared.Event.{Event}
use Rattle.event.specs.declared.Event.TheVariants.{Empty, Store, Acquire, Release}
use Rattle.thread_log.specs.declared.Log.{Log}
use Rattle.undo.proofs.UndoInvariant.{UndoHolds}
use Rattle.undo.proofs.RegionLaws.{moved, live-event}

-- what two constructors that are equal lead to
never : ◌≡◌ {A = ℕ} 0 1 → ⊥
never is = omega arith

-- the entry of this LSN logs the cell, and no ACQUIRE and no RELEASE stands between it and `end`
pub record LoggedAt (events : ℕ → Event) (first end cell number : ℕ) : Type 0 where
  pub logged_from : first ≤ number
  pub logged_to : number < end
  pub old : ℕ
  pub store_is : events number ≡ Store cell old
  pub no_acquire_after : (later : ℕ) → number < later → later < end → is_acquire (events later) ≡ false
  pub no_release_after : (later : ℕ) → number < later → later < end → is_release (events later) ≡ false

logged_here : (events : ℕ → Event) (first last cell old : ℕ) → first ≤ last → events last ≡ Store cell old
    → LoggedAt events first (suc last) cell last
logged_here events first last cell old from is = record {
  logged_from = from;
  logged_to = omega arith;
  old = old;
  store_is = is;
  no_acquire_after = λ later after before. absurd (omega arith);
  no_release_after = λ later after before. absurd (omega arith);
}

logged_before : (events : ℕ → Event) (first last cell number : ℕ) → is_acquire (events last) ≡ false → is_release (events last) ≡ false
    → LoggedAt events first last cell number → LoggedAt events first (suc last) cell number
logged_before events first last cell number acquires releases logged = record {
  logged_from = logged.logged_from;
  logged_to = omega arith;
  old = logged.old;
  store_is = logged.store_is;
  no_acquire_after = λ later after before.
      by_cases
      (ℕ_discrete last later)
      (λ same. moved events is_acquire false same acquires)
      (λ differs. logged.no_acquire_after later after (omega arith));
  no_release_after = λ later after before.
      by_cases
      (ℕ_discrete last later)
      (λ same. moved events is_release false same releases)
      (λ differs. logged.no_release_after later after (omega arith));
}

-- one entry more, of LSN `last`, with what the search found among those before it
searched-at : (events : ℕ → Event) (first last cell number : ℕ) (older : Option Lsn) → first ≤ last
    → (older ≡ Some (lsn number) → LoggedAt events first last cell number) → (event : Event) → events last ≡ event
    → searched event cell (Some (lsn last)) older ≡ Some (lsn number) → LoggedAt events first (suc last) cell number
searched-at events first last cell number older from before Empty is found = absurd (never (cc))
searched-at events first last cell number older from before (Acquire lock count) is found = absurd (never (cc))
searched-at events first last cell number older from before (Release lock count) is found = absurd (never (cc))
searched-at events first last cell number older from before (Store logged old) is found = by-cell (eqb logged cell) refl found
  where
    by-cell : (same : Bool) → eqb logged cell ≡ same → cond same (Some (lsn last)) older ≡ Some (lsn number)
        → LoggedAt events first (suc last) cell number
    by-cell true same found =
        let here : events last ≡ Store cell old = is ∙ ap (λ place. Store place old) (eqb-true logged cell same) in
        let lsn_is : lsn last ≡ lsn number = cc in
        subst (LoggedAt events first (suc last) cell) (ap (λ is. is.0) lsn_is) (logged_here events first last cell old from here)
    by-cell false differs found =
        logged_before events first last cell number (ap is_acquire is) (ap is_release is) (before found)

-- an ACQUIRE or a RELEASE stands between the entry of this LSN and `end`
pub record EndedAfter (events : ℕ → Event) (number end : ℕ) : Type 0 where
  pub later : ℕ
  pub later_from : number < later
  pub later_to : later < end
  pub later_ends : (is_acquire (events later) ≡ true) ⊎ (is_release (events later) ≡ true)

-- each entry of the cell is followed by an ACQUIRE or a RELEASE
abbrev pub NotLogged : (ℕ → Event) → ℕ → ℕ → ℕ → Type 0
NotLogged events first end cell =
    (number old : ℕ) → first ≤ number → number < end → events number ≡ Store cell old → EndedAfter events number end

ended_by : (events : ℕ → Event) (first last cell : ℕ) → (is_acquire (events last) ≡ true) ⊎ (is_release (events last) ≡ true)
    → NotLogged events first (suc last) cell
ended_by events first last cell ends number old from to is =
    by_cases
    (ℕ_discrete number last)
    (λ same.
    let is' : events last ≡ Store cell old = ap events (sym same) ∙ is in
    absurd (⊎_elim (λ acquires. never (cc)) (λ releases. never (cc)) ends))
    (λ differs. record { later = last; later_from = omega arith; later_to = omega arith; later_ends = ends })

searched_nowhere : (events : ℕ → Event) (first last cell : ℕ) (older : Option Lsn) → (older ≡ None → NotLogged events first last cell)
    → (event : Event) → events last ≡ event → event ≢ Empty → searched event cell (Some (lsn last)) older ≡ None
    → NotLogged events first (suc last) cell
searched_nowhere events first last cell older before Empty said not_empty found = absurd (not_empty refl)
searched_nowhere events first last cell older before (Acquire lock count) said not_empty found =
    ended_by events first last cell (inl (ap is_acquire said))
searched_nowhere events first last cell older before (Release lock count) said not_empty found =
    ended_by events first last cell (inr (ap is_release said))
searched_nowhere events first last cell older before (Store logged kept) said not_empty found = by-cell (eqb logged cell) refl found
  where
    by-cell : (same : Bool) → eqb logged cell ≡ same → cond same (Some (lsn last)) older ≡ None → NotLogged events first (suc last) cell
    by-cell true same found number old from to is = absurd (never (cc))
    by-cell false differs found number old from to is =
        by_cases
        (ℕ_discrete number last)
        (λ same. absurd (eqb-false logged cell differs (cc)))
        (λ earlier.
        let ended = before found number old from (omega arith) is in
        record { later = ended.later; later_from = ended.later_from; later_to = omega arith; later_ends = ended.later_ends })

module _ (log : Log) (events : ℕ → Event) (inv : UndoHolds log events) (cell : ℕ) where
  among-at : (count : ℕ) → count ≤ live_count log → (number : ℕ) → logged_among log cell count ≡ Some (lsn number)
      → LoggedAt events log.head.0 (log.head.0 + count) cell number
  unfolding logged_among
  among-at zero most number found = absurd (never (cc))
  among-at (suc count) most number found =
      let last = log.head.0 + count in
      rw (add-suc log.head.0 count)
      (searched-at
      events
      log.head.0
      last
      cell
      number
      (logged_among log cell count)
      (omega arith)
      (among-at count (omega arith) number)
      (events last)
      refl
      (rw (live-event log events inv count last refl (omega arith)) at found))

  -- the entry that the current region has of a cell
  pub logged-at : (number : ℕ) → logged_of log cell ≡ Some (lsn number) → LoggedAt events log.head.0 log.tail.next.0 cell number
  unfolding logged_of
  logged-at number found =
      subst
      (λ end. LoggedAt events log.head.0 end cell number)
      (omega (arith, inv.head_next))
      (among-at (live_count log) (omega arith) number found)

  among-nowhere : ((number : ℕ) → log.head.0 ≤ number → number < log.tail.next.0 → events number ≢ Empty) → (count : ℕ)
      → count ≤ live_count log → logged_among log cell count ≡ None → NotLogged events log.head.0 (log.head.0 + count) cell
  unfolding logged_among
  among-nowhere not_empty zero most found = λ number old from to is. absurd (omega arith)
  among-nowhere not_empty (suc count) most found =
      let last = log.head.0 + count in
      rw (add-suc log.head.0 count)
      (searched_nowhere
      events
      log.head.0
      last
      cell
      (logged_among log cell count)
      (among-nowhere not_empty count (omega arith))
      (events last)
      refl
      (not_empty last (omega arith) (omega arith))
      (rw (live-event log events inv count last refl (omega arith)) at found))

  -- where the current region has no entry of a cell, each live entry of the cell belongs to a region before it
  pub logged-nowhere : ((number : ℕ) → log.head.0 ≤ number → number < log.tail.next.0 → events number ≢ Empty)
      → logged_of log cell ≡ None → NotLogged events log.head.0 log.tail.next.0 cell
  unfolding logged_of
  logged-nowhere not_empty found =
      subst
      (λ end. NotLogged events log.head.0 end cell)
      (omega (arith, inv.head_next))
      (among-nowhere not_empty (live_count log) (omega arith) found)
