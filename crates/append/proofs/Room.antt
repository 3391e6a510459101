-- What the tests of an append decide, 6 and then 5, whatever a refusal and the outcome are. Whoever appends cites these.
use Rattle.std.specs.Prelude.{Option, Ok, Err}
use Prim.Native.Nat.{ℕ, ◌+◌, ◌-◌, ◌<◌, ◌≤◌}
use native.Mathlib.Omega.{arith}
use mathlib.Core.Path.{◌≡◌, refl, ap}
use borrow.Author.Tests.{le-leb, lt-leb}
use Rattle.answer.specs.Refusals.{unless}
use Rattle.answer.specs.Answer.{Answer}
use Rattle.answer.specs.declared.Refusal.{Refusal}
use Rattle.answer.specs.declared.Refusal.TheVariants.{LogFull, LsnsUsedUp}
use Rattle.answer.proofs.RefusalLaws.{unless-both, never-ok}
use Rattle.ring.specs.Ring.{slot_count, last_lsn}
use Rattle.append.specs.Append.{Grown, room_tests, grow_of, grown_tail}
use Rattle.tail.specs.declared.Tail.{Tail}

module _ {A : Type 0} (refuse : Answer → A) (outcome : A) (tail : Tail) (head : ℕ) where
  pub used-up : last_lsn < tail.next.0 → unless refuse (room_tests tail head) outcome ≡ refuse (Err LsnsUsedUp)
  unfolding room_tests unless
  used-up over = rw (le-leb (last_lsn + 1) tail.next.0 (omega arith))

  pub full : tail.next.0 ≤ last_lsn → slot_count ≤ tail.next.0 - head → unless refuse (room_tests tail head) outcome ≡ refuse (Err LogFull)
  unfolding room_tests unless
  full unused none = rw (lt-leb (last_lsn + 1) tail.next.0 (omega arith), le-leb slot_count (tail.next.0 - head) none)

  pub room : tail.next.0 ≤ last_lsn → tail.next.0 - head < slot_count → unless refuse (room_tests tail head) outcome ≡ outcome
  unfolding room_tests unless
  room unused some = rw (lt-leb (last_lsn + 1) tail.next.0 (omega arith), lt-leb slot_count (tail.next.0 - head) some)

  -- where the append is accepted, the outcome happens beside the record with the entry; where it is refused, the refusal, and the record
  -- is as it was
  module _ (closes : Option ℕ) {grown : Grown} (is : grown ≡ grow_of tail head closes) where
    pub when-accepted : {given : ℕ} → grown.answer ≡ Ok given
        → (given ≡ tail.next.0) × (grown.tail ≡ grown_tail tail closes) × (unless refuse (room_tests tail head) outcome ≡ outcome)
    unfolding grow_of
    when-accepted {given = given} accepted =
        rw is
        (unless-both {B = Grown}
        (λ (result : A) (grown : Grown). grown.answer ≡ Ok given → (given ≡ tail.next.0) × (grown.tail ≡ grown_tail tail closes) × (result ≡ outcome))
        refuse
        (λ answer. record { answer = answer; tail = tail })
        (room_tests tail head)
        outcome
        (record { answer = Ok tail.next.0; tail = grown_tail tail closes })
        (λ refusal accepted. never-ok refl accepted)
        (λ fails (accepted : Ok tail.next.0 ≡ Ok given). (cc, refl, refl))
        (rw is at accepted))

    pub when-refused : {refusal : Refusal} → grown.answer ≡ Err refusal
        → (grown.tail ≡ tail) × (unless refuse (room_tests tail head) outcome ≡ refuse (Err refusal))
    unfolding grow_of
    when-refused {refusal = refusal} refused =
        rw is
        (unless-both {B = Grown}
        (λ (result : A) (grown : Grown). grown.answer ≡ Err refusal → (grown.tail ≡ tail) × (result ≡ refuse (Err refusal)))
        refuse
        (λ answer. record { answer = answer; tail = tail })
        (room_tests tail head)
        outcome
        (record { answer = Ok tail.next.0; tail = grown_tail tail closes })
        (λ other refused. (refl, ap refuse refused))
        (λ fails refused. never-ok refused refl)
        (rw is at refused))
