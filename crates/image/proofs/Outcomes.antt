-- What the tests of an image give, by the first of them that holds.
use Prim.Native.Nat.{ℕ, ◌<◌}
use mathlib.Core.Path.{◌≡◌, refl}
use mathlib.Core.Bool.{Bool, true, false}
use mathlib.Core.List.{List}
use lib.Dec.{eqb}
use lib.ListN.{length}
use borrow.Author.Tests.{eqb-true, eq-eqb, ne_eqb, not-false}
use Rattle.std.specs.Prelude.{Ok, Err}
use Rattle.std.specs.Result.{result_map_both}
use Rattle.sizes.specs.Sizes.{thread_count}
use Rattle.answer.specs.Answer.{Answer}
use Rattle.answer.specs.Lists.{some_below}
use Rattle.answer.specs.Refusals.{unless, first_refusal}
use Rattle.answer.specs.declared.Refusal.{Refusal}
use Rattle.answer.specs.declared.Refusal.TheVariants.{WrongLength, BadHead, BadEntry}
use Rattle.answer.proofs.BelowLaws.{none-some_below, some_below-none}
use Rattle.answer.proofs.RefusalLaws.{AllFail, none-holds}
use Rattle.reader.specs.Stretch.{image_words}
use Rattle.image.specs.Stored.{present_entries}
use Rattle.image.specs.Tests.{is_bad_head, has_bad_entry, image_tests}
use Rattle.image.specs.Reading.{log_in, Headed, Readable, tested_of}

module _ (image : List ℕ) where
  abbrev bad_heads : Bool
  bad_heads = some_below thread_count (λ thread. is_bad_head (log_in image thread))

  abbrev bad_entries : Bool
  bad_entries = some_below thread_count (λ thread. has_bad_entry (log_in image thread))

  pub wrong-length : (length image ≡ image_words → ⊥) → first_refusal (image_tests image) ≡ Err WrongLength
  unfolding first_refusal image_tests unless
  wrong-length other = rw (ne_eqb (length image) image_words other)

  module _ (words : length image ≡ image_words) where
    pub bad-head : bad_heads ≡ true → first_refusal (image_tests image) ≡ Err BadHead
    unfolding first_refusal image_tests unless
    bad-head bad = rw (eq-eqb (length image) image_words words, bad)

    module _ (heads : (thread : ℕ) → thread < thread_count → is_bad_head (log_in image thread) ≡ false) where
      good-heads : bad_heads ≡ false
      good-heads = none-some_below thread_count (λ thread. is_bad_head (log_in image thread)) heads

      pub bad-entry : bad_entries ≡ true → tested_of image ≡ Err BadEntry
      unfolding tested_of first_refusal image_tests unless
      bad-entry bad = rw (eq-eqb (length image) image_words words, good-heads, bad)

      pub passed : bad_entries ≡ false → tested_of image ≡ Ok (present_entries image)
      unfolding tested_of first_refusal image_tests unless
      passed none = rw (eq-eqb (length image) image_words words, good-heads, none)

  -- an image of this length and with good heads is headed, and can be read where its entries are good too
  module _ (words : length image ≡ image_words) (heads : bad_heads ≡ false) where
    pub headed : Headed image
    headed = record { words = words; heads = some_below-none thread_count (λ thread. is_bad_head (log_in image thread)) heads }

    readable : bad_entries ≡ false → Readable image
    readable entries = record {
      headed = headed;
      good = some_below-none thread_count (λ thread. has_bad_entry (log_in image thread)) entries;
    }

  -- where no test holds the image can be read
  can-read : AllFail (image_tests image) → Readable image
  unfolding image_tests
  can-read fails =
      readable (eqb-true (length image) image_words (not-false (eqb (length image) image_words) fails.0)) fails.1.0 fails.1.1.0

  -- where a test holds nothing else is given
  pub refused : {refusal : Refusal} → first_refusal (image_tests image) ≡ Err refusal → tested_of image ≡ Err refusal
  unfolding tested_of
  refused is_refused = rw is_refused

  -- what the tests give tells the first refusal
  pub first-refused : {refusal : Refusal} → tested_of image ≡ Err refusal → first_refusal (image_tests image) ≡ Err refusal
  unfolding tested_of
  first-refused = by_answer (first_refusal (image_tests image))
    where
      by_answer : (answer : Answer) {refusal : Refusal} → result_map_both (λ given. present_entries image) (λ refusal. refusal) answer ≡ Err refusal →
          answer ≡ Err refusal
      by_answer (Ok given) same = absurd (cc)
      by_answer (Err refusal) same = cc

  pub first-passed : {counts : List ℕ} → tested_of image ≡ Ok counts → first_refusal (image_tests image) ≡ Ok 0
  unfolding tested_of
  first-passed tested = by_answer (first_refusal (image_tests image)) tested (λ given accepted. (none-holds (image_tests image) accepted).0)
    where
      by_answer : (answer : Answer) {counts : List ℕ} →
          result_map_both (λ given. present_entries image) (λ refusal. refusal) answer ≡ Ok counts →
          ((given : ℕ) → answer ≡ Ok given → answer ≡ Ok 0) → answer ≡ Ok 0
      by_answer (Ok given) same passes = passes given refl
      by_answer (Err refusal) same passes = absurd (cc)

  -- an image that is accepted can be read, and the counts are of its present entries
  pub image-accepted : {counts : List ℕ} → tested_of image ≡ Ok counts → (tested_of image ≡ Ok (present_entries image)) × Readable image
  unfolding tested_of
  image-accepted tested = by_answer (first_refusal (image_tests image)) tested (λ given accepted. can-read (none-holds (image_tests image) accepted).1)
    where
      by_answer : (answer : Answer) {counts : List ℕ} →
          result_map_both (λ given. present_entries image) (λ refusal. refusal) answer ≡ Ok counts →
          ((given : ℕ) → answer ≡ Ok given → Readable image) →
          (result_map_both (λ given. present_entries image) (λ refusal. refusal) answer ≡ Ok (present_entries image)) × Readable image
      by_answer (Ok given) same reads = (refl, reads given refl)
      by_answer (Err refusal) same reads = absurd (cc)
