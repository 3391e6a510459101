-- What follows for an outcome of tests in order: it is a refusal by one of them, or all of them failed and the effect happened.
use Prim.Native.Nat.{ℕ}
use mathlib.Core.Path.{◌≡◌, refl, sym, ap, ◌∙◌}
use mathlib.Core.Bool.{true, false, cond, true≢false}
use mathlib.Core.List.{List, [], ◌∷◌, ◌++◌}
use lib.Dec.{eqb}
use borrow.Author.Tests.{eq-eqb}
use Rattle.std.specs.Prelude.{Ok, Err}
use Rattle.answer.specs.Answer.{Answer, refusal_number, is_accepted}
use Rattle.answer.specs.Refusals.{Test, ◌⇒◌, unless, guarded, first_refusal}
use Rattle.answer.specs.declared.Refusal.{Refusal}
use Rattle.answer.specs.declared.Refusal.TheVariants.{NoSuchKind, NoSuchThread, NoSuchPlace, UnusedField, NoSuchWordCount}
use Rattle.answer.specs.declared.Refusal.TheVariants.{LogFull, LsnsUsedUp, Releasing, Race, NotLogged, EntryNotDurable}
use Rattle.answer.specs.declared.Refusal.TheVariants.{LockHeld, LockNotHeld, NotReleasing, NothingToPrune, EarlierReleaseNotPruned}
use Rattle.answer.specs.declared.Refusal.TheVariants.{CellNotDurable, NoLiveEntry, Unreadable, WrongLength, BadHead, BadEntry, Cyclic}
use Rattle.answer.specs.declared.Refusal.TheVariants.{TooManyCells, NotPairs, NotAnOrder}

-- every test failed
abbrev pub AllFail : List Test → Type 0
AllFail [] = Unit {0}
AllFail ((holds ⇒ refusal) ∷ tests) = (holds ≡ false) × AllFail tests

pub all_fail_left : (first second : List Test) → AllFail (first ++ second) → AllFail first
all_fail_left [] second fails = tt
all_fail_left ((holds ⇒ refusal) ∷ first) second fails = (fails.0, all_fail_left first second fails.1)

pub all_fail_right : (first second : List Test) → AllFail (first ++ second) → AllFail second
all_fail_right [] second fails = fails
all_fail_right ((holds ⇒ refusal) ∷ first) second fails = all_fail_right first second fails.1

-- no refusal has the number 0, which is that of acceptance
number_is_some : (refusal : Refusal) → eqb (refusal_number refusal) 0 ≡ false
number_is_some NoSuchKind = refl
number_is_some NoSuchThread = refl
number_is_some NoSuchPlace = refl
number_is_some UnusedField = refl
number_is_some LogFull = refl
number_is_some LsnsUsedUp = refl
number_is_some Releasing = refl
number_is_some Race = refl
number_is_some NotLogged = refl
number_is_some EntryNotDurable = refl
number_is_some LockHeld = refl
number_is_some LockNotHeld = refl
number_is_some NotReleasing = refl
number_is_some NothingToPrune = refl
number_is_some EarlierReleaseNotPruned = refl
number_is_some CellNotDurable = refl
number_is_some NoLiveEntry = refl
number_is_some NoSuchWordCount = refl
number_is_some Unreadable = refl
number_is_some WrongLength = refl
number_is_some BadHead = refl
number_is_some BadEntry = refl
number_is_some Cyclic = refl
number_is_some TooManyCells = refl
number_is_some NotPairs = refl
number_is_some NotAnOrder = refl

pub not-zero : (refusal : Refusal) → refusal_number refusal ≡ 0 → ⊥
not-zero refusal is_zero = true≢false (sym (eq-eqb (refusal_number refusal) 0 is_zero) ∙ number_is_some refusal)

-- every test gives a refusal: an answer that is no acceptance, and whose number is not 0
abbrev pub AllRefuse : List Test → Type 0
AllRefuse [] = Unit {0}
AllRefuse ((holds ⇒ refusal) ∷ tests) = (is_accepted (Err refusal) ≡ false) × (refusal_number refusal ≡ 0 → ⊥) × AllRefuse tests

-- so does every test of any list: those of a step's input, of the machine's state, of a lock, of an image and of an undo order
pub all_refuse : (tests : List Test) → AllRefuse tests
all_refuse [] = tt
all_refuse ((holds ⇒ refusal) ∷ tests) = (refl, not-zero refusal, all_refuse tests)

-- where it holds, they are the tests
pub guarded-asked : (tests : List Test) → guarded true tests ≡ tests
guarded-asked [] = refl
guarded-asked ((holds ⇒ refusal) ∷ tests) = ap (λ (more : List Test). (holds ⇒ refusal) ∷ more) (guarded-asked tests)

-- where it does not hold, none of them decides
pub guarded_unasked : {A : Type 0} (refuse : Answer → A) (outcome : A) (tests : List Test) →
    unless refuse (guarded false tests) outcome ≡ outcome
unfolding unless
guarded_unasked refuse outcome [] = refl
guarded_unasked refuse outcome ((holds ⇒ refusal) ∷ tests) = guarded_unasked refuse outcome tests

-- Two outcomes of the same tests go one way: what holds of both refusals, and of both effects where all tests failed, holds of both.
pub unless-both : {A B : Type 0} (Q : A → B → Type 0) (refuse : Answer → A) (report : Answer → B) (tests : List Test)
    (outcome : A) (done : B) →
    ((refusal : Refusal) → Q (refuse (Err refusal)) (report (Err refusal))) →
    (AllFail tests → Q outcome done) → Q (unless refuse tests outcome) (unless report tests done)
unfolding unless
unless-both Q refuse report [] outcome done on_refusal on_effect = on_effect tt
unless-both Q refuse report ((true ⇒ refusal) ∷ tests) outcome done on_refusal on_effect = on_refusal refusal
unless-both Q refuse report ((false ⇒ refusal) ∷ tests) outcome done on_refusal on_effect =
    unless-both Q refuse report tests outcome done on_refusal (λ fails. on_effect (refl, fails))

-- what holds of every refusal, and of the effect where all tests failed, holds of the outcome
pub unless-cases : {A : Type 0} (Q : A → Type 0) (refuse : Answer → A) (tests : List Test) (outcome : A) →
    ((refusal : Refusal) → Q (refuse (Err refusal))) → (AllFail tests → Q outcome) → Q (unless refuse tests outcome)
unless-cases Q refuse tests outcome = unless-both (λ one other. Q one) refuse refuse tests outcome outcome

-- tests in order, and then others
pub unless_append : {A : Type 0} (refuse : Answer → A) (outcome : A) (tests more : List Test) →
    unless refuse (tests ++ more) outcome ≡ unless refuse tests (unless refuse more outcome)
unfolding unless
unless_append refuse outcome [] more = refl
unless_append refuse outcome ((holds ⇒ refusal) ∷ tests) more =
    ap (cond holds (refuse (Err refusal))) (unless_append refuse outcome tests more)

-- a refusal is no acceptance
pub never-ok : {A : Type 0} {answer : Answer} {refusal : Refusal} {given : ℕ} → answer ≡ Err refusal → answer ≡ Ok given → A
never-ok refused accepted = let same = sym refused ∙ accepted in absurd (cc)

-- Code that asks the tests by a function whose result has the answer in it: what it may say once it knows which answer that is.
module _ {A B : Type 0} (refuse : Answer → A) (outcome : A) (report : Answer → B) (done : B) (answer_of : B → Answer)
    (reports : (refusal : Refusal) → answer_of (report (Err refusal)) ≡ Err refusal) (tests : List Test) where
  -- where one of the tests holds, the outcome is the refusal that the function's result has in it
  pub one-stops : {given : ℕ} → answer_of done ≡ Ok given → {refusal : Refusal} → answer_of (unless report tests done) ≡ Err refusal →
      unless refuse tests outcome ≡ refuse (Err refusal)
  one-stops accepts {refusal = refusal} =
      unless-both
      (λ one other. answer_of other ≡ Err refusal → one ≡ refuse (Err refusal))
      refuse
      report
      tests
      outcome
      done
      (λ given is_refused. ap refuse (sym (reports given) ∙ is_refused))
      (λ fails is_refused. never-ok is_refused accepts)

  -- where none of the tests holds, the outcome and the function's own effect both happen
  pub none-stops : {given : ℕ} → answer_of (unless report tests done) ≡ Ok given →
      (unless refuse tests outcome ≡ outcome) × (unless report tests done ≡ done) × AllFail tests
  none-stops {given = given} =
      unless-both
      (λ one other. answer_of other ≡ Ok given → (one ≡ outcome) × (other ≡ done) × AllFail tests)
      refuse
      report
      tests
      outcome
      done
      (λ refusal accepted. never-ok (reports refusal) accepted)
      (λ fails accepted. (refl, refl, fails))

-- Code that asks for the first refusal, then for what other tests say: what it may say once it knows the first refusal.
module _ {A : Type 0} (refuse : Answer → A) (outcome : A) (more tests : List Test) where
  pub stops : {refusal : Refusal} → first_refusal tests ≡ Err refusal → unless refuse (tests ++ more) outcome ≡ refuse (Err refusal)
  unfolding first_refusal
  stops is_refused =
      unless_append refuse outcome tests more
      ∙ one-stops refuse (unless refuse more outcome) (λ answer. answer) (Ok 0) (λ answer. answer) (λ refusal. refl) tests refl is_refused

  pub goes_on : {given : ℕ} → first_refusal tests ≡ Ok given → unless refuse (tests ++ more) outcome ≡ unless refuse more outcome
  unfolding first_refusal
  goes_on accepted =
      unless_append refuse outcome tests more
      ∙ (none-stops refuse (unless refuse more outcome) (λ answer. answer) (Ok 0) (λ answer. answer) (λ refusal. refl) tests accepted).0

-- none of the tests holds where the first refusal is none
pub none-holds : (tests : List Test) {given : ℕ} → first_refusal tests ≡ Ok given → (first_refusal tests ≡ Ok 0) × AllFail tests
unfolding first_refusal
none-holds tests accepted =
    let asked = none-stops (λ answer. answer) (Ok 0) (λ answer. answer) (Ok 0) (λ answer. answer) (λ refusal. refl) tests accepted in
    (asked.1, asked.2)
