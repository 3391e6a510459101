-- The slots of a run of LSNs: one of them is in a slot just where the first that is there is in the run.
use Prim.Native.Nat.{ℕ, zero, suc, ◌+◌, ◌-◌, ◌%◌, ◌<◌}
use mathlib.Core.Path.{◌≡◌, sym}
use mathlib.Core.Bool.{Bool, true, false, or-true}
use mathlib.Core.Logic.{by_cases}
use native.Mathlib.Omega.{arith}
use native.Mathlib.Decide.{dec_lt, ℕ_discrete}
use lib.Dec.{eqb, ltb}
use borrow.Author.Tests.{lt-ltb, le-ltb, eq-eqb, ne_eqb}
use Rattle.answer.specs.Lists.{some_below}
use Rattle.answer.proofs.BelowLaws.{none-some_below}
use Rattle.ring.specs.Ring.{slot_of}

-- where `first` is the first number that a test holds of, it holds of one below n just where `first` is below n
pub first_below : (test : ℕ → Bool) (first : ℕ) → ((i : ℕ) → i < first → test i ≡ false) → test first ≡ true → (n : ℕ)
    → some_below n test ≡ ltb first n
unfolding some_below
first_below test first before here zero = sym (le-ltb first 0 (omega arith))
first_below test first before here (suc n) =
    by_cases (dec_lt n first)
    (λ h. rw (before n h, first_below test first before here n, le-ltb first n (omega arith), le-ltb first (suc n) (omega arith)))
    (λ h. by_cases (ℕ_discrete n first)
    (λ e. rw (e, here, lt-ltb first (suc first) (omega arith)))
    (λ ne. rw (first_below test first before here n, lt-ltb first n (omega arith), lt-ltb first (suc n) (omega arith), or-true (test n))))

module _ (head slot : ℕ) where
  -- no LSN is in a slot over 63
  pub no-such-slot : 63 < slot → (n : ℕ) → some_below n (λ i. eqb (slot_of (head + i)) slot) ≡ false
  no-such-slot over n = none-some_below n (λ i. eqb (slot_of (head + i)) slot) (λ i below. ne_eqb (slot_of (head + i)) slot (λ e. omega arith))

  -- of n LSNs from the head on, one is in the slot just where fewer than n come before the first that is there
  pub slot-of-run : slot < 64 → (n : ℕ) → some_below n (λ i. eqb (slot_of (head + i)) slot) ≡ ltb ((slot + 64 - head % 64) % 64) n
  slot-of-run low =
      first_below _ ((slot + 64 - head % 64) % 64)
      (λ i h. ne_eqb (slot_of (head + i)) slot (λ e. omega arith))
      (eq-eqb (slot_of (head + (slot + 64 - head % 64) % 64)) slot (omega arith))

  -- the slot of an LSN is below 64
  pub slot-of-run-low : (n : ℕ) → some_below n (λ i. eqb (slot_of (head + i)) slot) ≡ true → slot < 64
  slot-of-run-low n some =
      by_cases (dec_lt slot 64) (λ h. h) (λ h. let never : ◌≡◌ {A = ℕ} 0 1 = cc (no-such-slot (omega arith) n) in omega arith)
