-- The oldest region of a log: a walk over the live entries finds its size, which stays within these.
use Prim.Native.Nat.{ℕ, zero, suc, ◌+◌, ◌-◌, ◌<◌, ◌≤◌}
use mathlib.Core.Bool.{Bool, true, false, false≢true}
use mathlib.Core.Logic.{by_cases}
use mathlib.Core.Path.{◌≡◌, refl}
use native.Mathlib.Decide.{ℕ_discrete}
use native.Mathlib.Numerals.{add-one}
use native.Mathlib.Omega.{arith}
use borrow.Author.Tests.{eq-eqb, ne_eqb, le-leb}
use Rattle.thread_log.specs.Entries.{live_count, drop_of, drop_to_of}
use Rattle.thread_log.specs.declared.Log.{Log}
use Rattle.undo.specs.Entering.{live_event}
use Rattle.undo.specs.Regions.{is_acquire, is_release, goes_on, oldest_region, is_finished}
use Rattle.undo.proofs.RegionLaws.{goes-most}
use Rattle.undo.proofs.Walks.{seen}

-- a walk looks at the cached entries and the head alone
goes_on-seen : (log : Log) (index count : ℕ) → goes_on log index count ≡ goes_on (seen log.cached log.head) index count
unfolding goes_on
goes_on-seen log index zero = refl
goes_on-seen log index (suc count) = rw (goes_on-seen log (suc index) count)

module _ (log : Log) (index n : ℕ) (more : index < n) where
  one_more : n - index ≡ suc (n - (index + 1))
  one_more = omega arith

  -- an ACQUIRE ends the region before it
  pub goes-on-stops : is_acquire (live_event log index) ≡ true → goes_on log index (n - index) ≡ 0
  unfolding goes_on
  goes-on-stops acquire = rw (one_more, acquire)

  -- a RELEASE ends the region with it
  pub goes-on-ends : is_acquire (live_event log index) ≡ false → is_release (live_event log index) ≡ true → goes_on log index (n - index) ≡ 1
  unfolding goes_on
  goes-on-ends acquire release = rw (one_more, acquire, release)

  -- an entry that is neither an ACQUIRE nor a RELEASE goes on the region
  pub goes-on-turn : is_acquire (live_event log index) ≡ false → is_release (live_event log index) ≡ false
      → goes_on log index (n - index) ≡ suc (goes_on log (index + 1) (n - (index + 1)))
  unfolding goes_on
  goes-on-turn acquire release = rw (one_more, add-one index, acquire, release)

-- the oldest region of a log with no live entry, of one whose oldest live entry is a RELEASE, and of any other
pub no-region : (log : Log) → live_count log ≡ 0 → oldest_region log ≡ 0
unfolding oldest_region
no-region log none = rw (eq-eqb (live_count log) 0 none)

module _ (log : Log) (some : live_count log ≡ 0 → ⊥) where
  pub region-of-release : is_release (live_event log 0) ≡ true → oldest_region log ≡ 1
  unfolding oldest_region
  region-of-release release = rw (ne_eqb (live_count log) 0 some, release)

  pub region-goes-on : is_release (live_event log 0) ≡ false
      → oldest_region log ≡ 1 + goes_on log 1 (live_count log - 1)
  unfolding oldest_region
  region-goes-on release =
      rw (ne_eqb (live_count log) 0 some, release) (omega arith)

-- the oldest region has an entry where one is live, and its entries are live
region-bounds : (log : Log) (release : Bool) → is_release (live_event log 0) ≡ release → (live_count log ≡ 0 → ⊥)
    → (1 ≤ oldest_region log) × (oldest_region log ≤ live_count log)
region-bounds log true e some = omega (arith, region-of-release log some e)
region-bounds log false e some =
    omega (arith, region-goes-on log some e, goes-most log 1 (live_count log - 1))

pub region-some : (log : Log) → (live_count log ≡ 0 → ⊥) → 1 ≤ oldest_region log
region-some log some = (region-bounds log (is_release (live_event log 0)) refl some).0

pub region-live : (log : Log) → oldest_region log ≤ live_count log
region-live log =
    by_cases (ℕ_discrete (live_count log) 0)
    (λ none. omega (arith, no-region log none))
    (λ some. (region-bounds log (is_release (live_event log 0)) refl some).1)

-- an oldest region that is finished has an entry
pub finished_some : (log : Log) → is_finished log ≡ true → 1 ≤ oldest_region log
unfolding is_finished
finished_some log finished =
    by_cases (ℕ_discrete (live_count log) 0)
    (λ none. absurd (false≢true (rw (no-region log none, none) at finished)))
    (region-some log)

-- moving the head past the oldest region is moving the head up to the LSN after the region
pub prune_region : (log : Log) → log.head.0 ≤ log.tail.next.0
    → drop_to_of log (log.head.0 + oldest_region log) ≡ drop_of log (oldest_region log)
unfolding drop_to_of drop_of
prune_region log within =
    let live = region-live log in
    rw (
      le-leb log.head.0 (log.head.0 + oldest_region log) (omega arith),
      le-leb (log.head.0 + oldest_region log) log.tail.next.0 (omega arith),
    )
