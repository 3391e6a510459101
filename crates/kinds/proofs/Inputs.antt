-- The input's tests by the step's kind: what an accepted input's fields are.
use Rattle.std.specs.Prelude.{Ok, Err, IfOk}
use Prim.Native.Nat.{ℕ, ◌≤◌, ◌<◌}
use native.Mathlib.Decide.{dec_lt}
use native.Mathlib.Omega.{arith}
use mathlib.Core.Path.{◌≡◌, refl, sym, ◌∙◌}
use mathlib.Core.Logic.{by_cases}
use mathlib.Core.Bool.{Bool, true, false, not, ◌||◌, true≢false}
use lib.Dec.{eqb, ltb, leb}
use borrow.Author.Tests.{lt-ltb, le-ltb, le-leb, lt-leb, ltb-true, eqb-true, not-false}
use Rattle.std.proofs.lemmas.Bool.Decides.{nat_tests}
use Rattle.sizes.specs.Sizes.{thread_count, entry_words}
use Rattle.answer.specs.Answer.{Answer}
use Rattle.answer.specs.Refusals.{first_refusal}
use Rattle.answer.proofs.RefusalLaws.{AllFail, none-holds}
use Rattle.kinds.specs.Kinds.{fields_of, is_over, is_left_over, count_tests, input_tests, InputFits}
use Rattle.kinds.specs.declared.Kind.{Kind}
use Rattle.kinds.specs.declared.Kind.TheVariants.{Load as LOAD, Log as LOG, Store as STORE, Acquire as ACQUIRE, LogRel as LOGREL}
use Rattle.kinds.specs.declared.Kind.TheVariants.{Release as RELEASE, Flush as FLUSH, FlushLog as FLUSHLOG, Fence as FENCE}
use Rattle.kinds.specs.declared.Kind.TheVariants.{Prune as PRUNE, EvictLog as EVICTLOG, EvictCell as EVICTCELL}
use Rattle.kinds.specs.declared.Kind.TheVariants.{EvictWords as EVICTWORDS}

-- a place that is at least the bound is one that is not below it
pub not_below : (bound place : ℕ) → leb bound place ≡ not (ltb place bound)
not_below bound place =
    by_cases (dec_lt place bound)
    (λ within. rw (lt-leb bound place within, lt-ltb place bound within))
    (λ over. rw (le-leb bound place (omega arith), le-ltb place bound (omega arith)))

-- a place that is not over its bound is below it, a field that is not left over is 0, and a count that is not refused is 1 to the most
in_bound : (word bound : ℕ) → not (ltb word bound) ≡ false → word < bound
in_bound word bound fails = ltb-true word bound (not-false (ltb word bound) fails)

is_zero : (word : ℕ) → not (eqb word 0) ≡ false → word ≡ 0
is_zero word fails = eqb-true word 0 (not-false (eqb word 0) fails)

is_counted : (word most : ℕ) → (eqb word 0 || ltb most word) ≡ false → (1 ≤ word) × (word ≤ most)
is_counted word most fails = grind (arith, nat_tests)

-- what an accepted input's fields are
module _ (thread place value : ℕ) where
  fits : (kind : Kind) → thread < thread_count → is_over (fields_of kind).place place ≡ false →
      is_left_over (fields_of kind).thread thread ≡ false → is_left_over (fields_of kind).place place ≡ false →
      is_left_over (fields_of kind).value value ≡ false → AllFail (count_tests (fields_of kind).value value) →
      InputFits kind thread place value
  fits LOAD is_thread over unused unplaced left counts =
      record { is_thread = is_thread; thread_fits = tt; place_fits = in_bound place _ over; value_fits = is_zero value left }
  fits LOG is_thread over unused unplaced left counts =
      record { is_thread = is_thread; thread_fits = tt; place_fits = in_bound place _ over; value_fits = is_zero value left }
  fits STORE is_thread over unused unplaced left counts =
      record { is_thread = is_thread; thread_fits = tt; place_fits = in_bound place _ over; value_fits = tt }
  fits ACQUIRE is_thread over unused unplaced left counts =
      record { is_thread = is_thread; thread_fits = tt; place_fits = in_bound place _ over; value_fits = is_zero value left }
  fits LOGREL is_thread over unused unplaced left counts =
      record { is_thread = is_thread; thread_fits = tt; place_fits = in_bound place _ over; value_fits = is_zero value left }
  fits RELEASE is_thread over unused unplaced left counts =
      record { is_thread = is_thread; thread_fits = tt; place_fits = in_bound place _ over; value_fits = is_zero value left }
  fits FLUSH is_thread over unused unplaced left counts =
      record { is_thread = is_thread; thread_fits = tt; place_fits = in_bound place _ over; value_fits = is_zero value left }
  fits FLUSHLOG is_thread over unused unplaced left counts =
      record { is_thread = is_thread; thread_fits = tt; place_fits = is_zero place unplaced; value_fits = is_zero value left }
  fits FENCE is_thread over unused unplaced left counts =
      record { is_thread = is_thread; thread_fits = tt; place_fits = is_zero place unplaced; value_fits = is_zero value left }
  fits PRUNE is_thread over unused unplaced left counts =
      record { is_thread = is_thread; thread_fits = tt; place_fits = is_zero place unplaced; value_fits = is_zero value left }
  fits EVICTLOG is_thread over unused unplaced left counts =
      record { is_thread = is_thread; thread_fits = tt; place_fits = in_bound place _ over; value_fits = is_zero value left }
  fits EVICTCELL is_thread over unused unplaced left counts =
      record { is_thread = is_thread; thread_fits = is_zero thread unused; place_fits = in_bound place _ over; value_fits = is_zero value left }
  fits EVICTWORDS is_thread over unused unplaced left counts =
      record { is_thread = is_thread; thread_fits = tt; place_fits = in_bound place _ over; value_fits = is_counted value entry_words counts.0 }

  pub accepted_fits : (kind : Kind) {given : ℕ} → first_refusal (input_tests kind thread place value) ≡ Ok given →
      InputFits kind thread place value
  unfolding input_tests
  accepted_fits kind accepted =
      let fails = (none-holds (input_tests kind thread place value) accepted).1 in
      let left =
      none_of
      (is_left_over (fields_of kind).thread thread)
      (is_left_over (fields_of kind).place place)
      fails.1.1.0 in
      fits kind (in_bound thread thread_count fails.0) fails.1.0 left.0 left.1 left.2 fails.1.1.1
    where
      none_of : (one other : Bool) {third : Bool} → (one || other || third) ≡ false → (one ≡ false) × (other ≡ false) × (third ≡ false)
      none_of true other fails = absurd (true≢false fails)
      none_of false true fails = absurd (true≢false fails)
      none_of false false fails = (refl, refl, fails)

  -- an accepted input gives no number
  pub accepted_zero : (kind : Kind) {given : ℕ} → first_refusal (input_tests kind thread place value) ≡ Ok given → given ≡ 0
  accepted_zero kind accepted = ok-same (sym accepted ∙ (none-holds (input_tests kind thread place value) accepted).0)
    where
      ok-same : {one other : ℕ} → ◌≡◌ {A = Answer} (Ok one) (Ok other) → one ≡ other
      ok-same same = cc

  pub answer_fits : (kind : Kind) (answer : Answer) → answer ≡ first_refusal (input_tests kind thread place value) →
      IfOk answer (λ given. InputFits kind thread place value)
  answer_fits kind (Ok given) asked = accepted_fits kind (sym asked)
  answer_fits kind (Err refusal) asked = tt
