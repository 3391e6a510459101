-- The order on entries: earlier in the same log, or a RELEASE of a lock before an ACQUIRE of it with a larger count, and what follows.
-- What leads to a pruned entry is pruned; what leaves a thread does so by a RELEASE of that thread.
use Prim.Native.Nat.{ℕ, ◌≤◌, ◌<◌}
use native.Mathlib.Omega.{arith}
use mathlib.Core.Path.{◌≡◌, refl, ◌∙◌}
use mathlib.Core.Logic.{◌⊎◌, inl, inr, ⊎_elim}
use Rattle.atomicity.proofs.Logged.{Entries, IsReleaseOf, IsAcquireOf, Grows, still-is}
use Rattle.atomicity.proofs.Locks.{Locks, PrunesHold, pruned_before}

-- a point is a thread and an LSN of it, 0 before its first entry
pub data Leads (entries : Entries) : ℕ → ℕ → ℕ → ℕ → Type 0 where
  in_thread : {thread number later : ℕ} → number ≤ later → Leads entries thread number thread later
  by_lock : {thread number other later lock count larger : ℕ} → IsReleaseOf entries thread number lock count →
      IsAcquireOf entries other later lock larger → count < larger → Leads entries thread number other later
  through : {thread number other later third last : ℕ} → Leads entries thread number other later →
      Leads entries other later third last → Leads entries thread number third last

-- the order stays as entries are added
pub leads_grow : {old new : Entries} {now : ℕ} {thread number other later : ℕ} → Grows old new now →
    Leads old thread number other later → Leads new thread number other later
leads_grow grows (in_thread before) = in_thread before
leads_grow grows (by_lock release acquire smaller) = by_lock (still-is grows release) (still-is grows acquire) smaller
leads_grow grows (through first second) = through (leads_grow grows first) (leads_grow grows second)

-- pruned is closed downward
pub leads_pruned : {entries : Entries} {locks : Locks} {thread number other later : ℕ} → PrunesHold entries locks →
    Leads entries thread number other later → later < entries.head other → number < entries.head thread
leads_pruned prunes (in_thread before) pruned = omega arith
leads_pruned prunes (by_lock release acquire smaller) pruned = pruned_before prunes release acquire smaller pruned
leads_pruned prunes (through first second) pruned = leads_pruned prunes first (leads_pruned prunes second pruned)

-- the thread has a RELEASE entry from this LSN on
pub record ReleasesFrom (entries : Entries) (thread number : ℕ) : Type 0 where
  pub at : ℕ
  pub lock : ℕ
  pub count : ℕ
  pub from : number ≤ at
  pub release : IsReleaseOf entries thread at lock count

-- what leads on stays in the thread, or leaves it by a RELEASE
pub leads-on : {entries : Entries} {thread number other later : ℕ} → Leads entries thread number other later →
    ((thread ≡ other) × (number ≤ later)) ⊎ ReleasesFrom entries thread number
leads-on (in_thread before) = inl (refl, before)
leads-on {number} (by_lock {lock} {count} release acquire smaller) =
    inr (record { at = number; lock = lock; count = count; from = omega arith; release = release })
leads-on {entries} {thread} {number} (through {other} {later} {third} {last} first second) =
    ⊎_elim
    (λ stays.
    ⊎_elim
    (λ further. let one = stays.1 in let two = further.1 in inl (stays.0 ∙ further.0, omega arith))
    (λ leaves.
    let one = stays.1 in
    let two = leaves.from in
    inr (record {
      at = leaves.at;
      lock = leaves.lock;
      count = leaves.count;
      from = omega arith;
      release = rw stays.0 leaves.release;
    }))
    (leads-on second))
    (λ leaves. inr leaves)
    (leads-on first)
