-- The reader finds what stands in an image that is put together of cells, heads and four parts.
use Prim.Native.Nat.{ℕ, zero, suc, ◌+◌, ◌*◌, ◌<◌}
use mathlib.Core.Path.{◌≡◌, ap, sym, ◌∙◌}
use mathlib.Core.List.{List, [], ◌∷◌, ◌++◌, flatten}
use native.Mathlib.Nat.{zero-mul}
use native.Mathlib.Omega.{arith}
use borrow.Author.Tests.{lt-ltb, eq-eqb}
use lib.ListN.{length, get_or, take, drop, length-append, get_or-append}
use lib.Seq.{take_at, drop-append-add, get_or-append-add}
use Rattle.sizes.specs.Sizes.{thread_count}
use Rattle.reader.specs.Stretch.{image_words, heads_at, stretch_words, stretch_at, stretch_of}

-- parts of one width, joined
flatten_length : (width : ℕ) (parts : List (List ℕ)) (none : List ℕ)
    → ((place : ℕ) → place < length parts → length (get_or parts place none) ≡ width) → length (flatten parts) ≡ length parts * width
unfolding flatten
flatten_length width [] none each = omega arith
flatten_length width (part ∷ parts) none each =
    length-append part (flatten parts)
    ∙ omega (arith, each 0 (omega arith), flatten_length width parts none (λ place inside. each (suc place) (omega arith)))

flatten_part : (width : ℕ) (parts : List (List ℕ)) (none : List ℕ)
    → ((place : ℕ) → place < length parts → length (get_or parts place none) ≡ width) → (place : ℕ) → place < length parts
    → take width (drop (place * width) (flatten parts)) ≡ get_or parts place none
unfolding flatten
flatten_part width [] none each place inside = absurd (omega arith)
flatten_part width (part ∷ parts) none each zero inside =
    ap (λ start. take width (drop start (part ++ flatten parts))) (zero-mul width) ∙ take_at part (flatten parts) width (each 0 inside)
flatten_part width (part ∷ parts) none each (suc place) inside =
    let start : suc place * width ≡ length part + place * width = omega (arith, each 0 (omega arith)) in
    ap (λ start. take width (drop start (part ++ flatten parts))) start
    ∙ ap (take width) (drop-append-add part (flatten parts) (place * width))
    ∙ flatten_part width parts none (λ place' inside'. each (suc place') (omega arith)) place (omega arith)

-- what a reader finds in an image
pub record Reads (image cells : List ℕ) (heads : ℕ → ℕ) (stretches : ℕ → List ℕ) : Type 0 where
  pub length_is : length image ≡ image_words
  pub cells_are : take heads_at image ≡ cells
  pub head_is : (thread : ℕ) → thread < thread_count → get_or image (heads_at + thread) 0 ≡ heads thread
  pub stretch_is : (thread : ℕ) → thread < thread_count → stretch_of image thread ≡ stretches thread

-- an image of 128 cells, 4 heads and 4 parts of 256 words
pub image_reads : (cells heads : List ℕ) (parts : List (List ℕ)) (none : List ℕ) → length cells ≡ heads_at → length heads ≡ thread_count
    → length parts ≡ thread_count → ((thread : ℕ) → thread < thread_count → length (get_or parts thread none) ≡ stretch_words)
    → Reads (cells ++ (heads ++ flatten parts)) cells (λ thread. get_or heads thread 0) (λ thread. get_or parts thread none)
unfolding stretch_of
image_reads cells heads parts none cell_count head_count part_count each =
    let image = cells ++ (heads ++ flatten parts) in
    let each' : (thread : ℕ) → thread < length parts → length (get_or parts thread none) ≡ stretch_words = λ thread inside.
    each thread (omega arith) in
    let length_is : length image ≡ image_words =
    length-append cells (heads ++ flatten parts)
    ∙ omega (arith, length-append heads (flatten parts), flatten_length stretch_words parts none each') in
    record {
      length_is = length_is;
      cells_are = take_at cells (heads ++ flatten parts) heads_at cell_count;
      head_is = λ thread inside.
          ap (λ count. get_or image (count + thread) 0) (sym cell_count)
          ∙ get_or-append-add cells (heads ++ flatten parts) thread 0
          ∙ get_or-append heads (flatten parts) 0 thread (omega arith);
      stretch_is = λ thread inside.
          let start : stretch_at thread ≡ length cells + (length heads + thread * stretch_words) = omega arith in
          rw (lt-ltb thread thread_count inside, eq-eqb (length image) image_words length_is)
          (ap (λ start. take stretch_words (drop start image)) start
          ∙ ap (take stretch_words) (drop-append-add cells (heads ++ flatten parts) (length heads + thread * stretch_words))
          ∙ ap (take stretch_words) (drop-append-add heads (flatten parts) (thread * stretch_words))
          ∙ flatten_part stretch_words parts none each' thread (omega arith));
    }
