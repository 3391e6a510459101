-- Laws of the choices of lines: which lines are tried, how many choices there are, which one has which number, and how the loops come to
-- them.
use Prim.Native.Nat.{ℕ, zero, suc, ◌+◌, ◌-◌, ◌*◌, ◌/◌, ◌%◌, ◌^◌, ◌≤◌, ◌<◌}
use native.Mathlib.Numerals.{add-one}
use native.Mathlib.Omega.{arith}
use mathlib.Core.Path.{◌≡◌, refl, sym, ap, ap₂, ◌∙◌}
use mathlib.Core.Bool.{Bool, true, false, cond, not, ◌||◌, or-false}
use mathlib.Core.List.{List, [], ◌∷◌, ◌++◌, map, flatten, append_assoc, append-nil}
use lib.ListN.{length, get_or, set, take, drop, replicate, length-set, length-take, length-drop, drop_of_length-le}
use lib.Seq.{drop-cons, drop-length, take_all, take-append-le, take-suc-set, get_or-take, ext_get_or}
use lib.Dec.{eqb}
use borrow.Author.Tests.{eq-eqb, ne_eqb}
use Rattle.std.specs.Bool.{Decides}
use Rattle.std.proofs.lemmas.Bool.{eqb-true}
use Rattle.std.proofs.lemmas.Grind.{pow_more}
use Rattle.std.proofs.lemmas.List.{get_or-drop}
use Rattle.answer.specs.Lists.{tab}
use Rattle.answer.proofs.BelowLaws.{none-some_below, some_below-none}
use Rattle.answer.proofs.ListLaws.{length-tab, get_d-tab, get_d_set, get_d-blank}
use Rattle.answer.proofs.Searches.{search_same}
use Rattle.cache.specs.Cache.{cell_count, line_count}
use Rattle.choices.specs.Choices.{differs_in, lines_where, lowest_lines, choices_of}
use Rattle.choices.specs.Counting.{Below, is_in, choice_at, twos, marks_of, count_if}

-- ---- how many choices there are

-- they are a power of 2
pub twos_power : (count : ℕ) → twos count ≡ 2 ^ count
unfolding twos
twos_power zero = refl
twos_power (suc count) = rw (twos_power count, ← add-one count) (omega (arith, pow_more 2 count))

-- ---- a list that has two for each of another

module _ {A B : Type 0} (first second : A → B) where
  -- of each element the first thing and then the second
  abbrev pairs : List A → List B
  pairs list = flatten (map (λ one. first one ∷ second one ∷ []) list)

  -- a list of pairs is twice as long as the list that they are of
  length_pairs : (list : List A) → length (pairs list) ≡ length list + length list
  unfolding flatten
  length_pairs [] = refl
  length_pairs (one ∷ list) = omega (arith, length_pairs list)

  -- a list of pairs has the first of two at an even place and the second at an odd one, of the element at half the place
  get_d-pairs : (list : List A) (place : ℕ) (d : A) (e : B)
      → place < length list + length list
      → let half = get_or list (place / 2) d in
      get_or (pairs list) place e ≡ cond (eqb (place % 2) 1) (second half) (first half)
  unfolding flatten
  get_d-pairs [] place d e below = absurd (omega arith)
  get_d-pairs (one ∷ list) zero d e below = refl
  get_d-pairs (one ∷ list) (suc zero) d e below = refl
  get_d-pairs (one ∷ list) (suc (suc place)) d e below =
      let half : suc (suc place) / 2 ≡ suc (place / 2) = omega arith in
      let rest : suc (suc place) % 2 ≡ place % 2 = omega arith in
      rw (half, rest) (get_d-pairs list place d e (omega arith))

-- ---- every choice has its number

-- there are as many choices as numbers
pub choices_length : (lines : List ℕ) → length (choices_of lines) ≡ twos (length lines)
unfolding choices_of twos
choices_length [] = refl
choices_length (line ∷ lines) =
    length_pairs (λ choice. choice) (λ choice. line ∷ choice) (choices_of lines) ∙ rw (choices_length lines)

-- the choice at this place is the one of this number
pub choices_at : (lines : List ℕ) (number : ℕ) → number < twos (length lines) → get_or (choices_of lines) number [] ≡ choice_at lines number
unfolding choices_of choice_at twos
choices_at [] zero below = refl
choices_at [] (suc number) below = absurd (omega arith)
choices_at (line ∷ lines) number below =
    get_d-pairs (λ choice. choice) (λ choice. line ∷ choice) (choices_of lines) number [] [] (omega (arith, choices_length lines)) ∙
    rw (choices_at lines (number / 2) (omega arith)) (with_first (eqb (number % 2) 1) (choice_at lines (number / 2)))
  where
    with_first : (odd : Bool) (rest : List ℕ) → cond odd (line ∷ rest) rest ≡ cond odd (line ∷ []) [] ++ rest
    with_first true rest = refl
    with_first false rest = refl

-- ---- a loop that counts those of a list of which a test holds

-- the loop stands at this place and has counted so many: with those from here on they are all
pub record Counted {A : Type 0} (test : A → Bool) (list : List A) (place count : ℕ) : Type 0 where
  pub within : place ≤ length list
  pub few : count ≤ place
  pub sum : count + count_if test (drop place list) ≡ count_if test list

-- at the start none is counted
pub counts_start : {A : Type 0} {test : A → Bool} {list : List A} → Counted test list 0 0
counts_start {test} {list} = record { within = omega arith; few = omega arith; sum = omega arith }

module _ {A : Type 0} {test : A → Bool} {list : List A} {place count : ℕ} (at : Counted test list place count) where
  -- those counted from a place on are the one there, where the test holds of it, and those after it
  next : (d : A)
      → place < length list
      → count_if test (drop place list) ≡ cond (test (get_or list place d)) 1 0 + count_if test (drop (place + 1) list)
  unfolding count_if
  next d more = rw (drop-cons list place d more, add-one place)

  -- where the test holds at the loop's place, one more is counted
  pub counts-more : (d : A) → place < length list → test (get_or list place d) ≡ true → Counted test list (place + 1) (count + 1)
  counts-more d more holds =
      let step = rw holds at (next d more) in
      record { within = omega arith; few = omega arith; sum = omega (arith, at.sum, step) }

  -- where the test fails at the loop's place, no more is counted
  pub counts_same : (d : A) → place < length list → test (get_or list place d) ≡ false → Counted test list (place + 1) count
  counts_same d more fails =
      let step = rw fails at (next d more) in
      record { within = omega arith; few = omega arith; sum = omega (arith, at.sum, step) }

  -- past the end of the list all are counted
  pub counts_end : length list ≤ place → count ≡ count_if test list
  unfolding count_if
  counts_end past =
      let all : place ≡ length list = omega (arith, at.within) in
      let none : count_if test (drop place list) ≡ 0 = rw (all, drop-length list) in
      omega (arith, at.sum, none)

-- ---- a loop that gathers the lines of which a test holds

-- the loop stands at this line and has so many of the eight: with those from here on they are the first eight of all
pub record Gathered (test : ℕ → Bool) (lines : List ℕ) (count line : ℕ) : Type 0 where
  pub within : line ≤ line_count
  pub few : count ≤ 8
  pub long : length lines ≡ 8
  pub is : take 8 (take count lines ++ lines_where test line (line_count - line)) ≡ take 8 (lines_where test 0 line_count)

-- at the start no line is gathered
pub gather_starts : {test : ℕ → Bool} → Gathered test (replicate 8 0) 0 0
gather_starts = record { within = omega arith; few = omega arith; long = refl; is = refl }

module _ {test : ℕ → Bool} {lines : List ℕ} {count line : ℕ} (at : Gathered test lines count line) (more : line < line_count) where
  -- the lines from this one on of which the test holds are this one, where it is one of them, and those after it
  from-here : lines_where test line (line_count - line)
      ≡ cond (test line) (line ∷ []) [] ++ lines_where test (line + 1) (line_count - (line + 1))
  unfolding lines_where
  from-here =
      let one_less : line_count - line ≡ suc (line_count - (line + 1)) = omega arith in
      rw (one_less, add-one line)

  -- a line of which the test fails is not gathered
  pub gather-same : test line ≡ false → Gathered test lines count (line + 1)
  gather-same fails = record {
    within = omega arith;
    few = at.few;
    long = at.long;
    is = rw (from-here, fails) at at.is;
  }

  -- a line of which the test holds is gathered, where there is room for it
  pub gather-more : count < 8 → test line ≡ true → Gathered test (set lines count line) (count + 1) (line + 1)
  gather-more room holds = record {
    within = omega arith;
    few = omega arith;
    long = length-set lines count line ∙ at.long;
    is =
        rw (add-one count, take-suc-set lines count line (omega (arith, at.long)), append_assoc)
        (rw (from-here, holds) at at.is);
  }

  -- where there is no room, a line is not gathered
  pub gather-full : 8 ≤ count → Gathered test lines count (line + 1)
  gather-full full = record {
    within = omega arith;
    few = at.few;
    long = at.long;
    is = cut (lines_where test (line + 1) (line_count - (line + 1))) ∙ sym (cut (lines_where test line (line_count - line))) ∙ at.is;
  }
    where
      cut : (rest : List ℕ) → take 8 (take count lines ++ rest) ≡ take 8 (take count lines)
      cut rest = take-append-le 8 (take count lines) rest (omega (arith, length-take count lines, at.long))

-- past the last line the first eight of all are gathered
pub gather_ends : {test : ℕ → Bool} {lines : List ℕ} {count line : ℕ}
    → Gathered test lines count line
    → line_count ≤ line
    → take count lines ≡ take 8 (lines_where test 0 line_count)
unfolding lines_where
gather_ends {test} {lines} {count} {line} at past =
    let none : line_count - line ≡ 0 = omega arith in
    sym (take_all 8 (take count lines) (omega (arith, length-take count lines, at.few))) ∙
    (rw (none, append-nil (take count lines)) at at.is)

-- ---- every line that is tried is one of the machine's

-- of so many lines from this one on, each is below the end
where_below : (test : ℕ → Bool) (line count : ℕ) → Below (line + count) (lines_where test line count)
unfolding lines_where
where_below test line zero = λ index below. absurd (omega arith)
where_below test line (suc count) = either (test line) (lines_where test (suc line) count) (where_below test (suc line) count)
  where
    either : (holds : Bool) (rest : List ℕ) → Below (suc line + count) rest → Below (line + suc count) (cond holds (line ∷ []) [] ++ rest)
    either true rest later zero below = omega arith
    either true rest later (suc index) below = omega (arith, later index (omega arith))
    either false rest later index below = omega (arith, later index below)

-- each of the lowest eight lines whose contents differ is below the number of lines
pub lowest-below : (seen kept : List ℕ) → Below line_count (lowest_lines seen kept)
unfolding lowest_lines
lowest-below seen kept index below =
    let all = lines_where (differs_in seen kept) 0 line_count in
    let few : index < 8 = omega (arith, length-take 8 all) in
    rw (get_or-take 8 all index 0 few) (where_below (differs_in seen kept) 0 line_count index (omega (arith, length-take 8 all)))

-- ---- a loop that marks the lines of a choice

-- the loop stands at this place with this number left: with what is left of the choice, the marks are those of the whole
pub record Marking (lines : List ℕ) (number : ℕ) (marks : List Bool) (left index : ℕ) : Type 0 where
  pub within : index ≤ length lines
  pub long : length marks ≡ line_count
  pub is : (line : ℕ)
      → line < line_count
      → (get_or marks line false || is_in line (choice_at (drop index lines) left)) ≡ is_in line (choice_at lines number)

-- at the start the whole choice is left and no line is marked
pub marking_starts : {lines : List ℕ} {number : ℕ} → Marking lines number (replicate 16 false) number 0
marking_starts {lines} {number} = record {
  within = omega arith;
  long = refl;
  is = λ line below. rw (get_d-blank 16 line false);
}

module _ {lines : List ℕ} {number : ℕ} {marks : List Bool} {left index : ℕ} (at : Marking lines number marks left index) where
  -- what is left of the choice is this line, where the number left is odd, and what is left after it
  left_here : index < length lines
      → choice_at (drop index lines) left
      ≡ cond (eqb (left % 2) 1) (get_or lines index 0 ∷ []) [] ++ choice_at (drop (index + 1) lines) (left / 2)
  unfolding choice_at
  left_here more = rw (drop-cons lines index 0 more, add-one index)

  -- the number left is odd: this line is of the choice
  pub marking-more : index < length lines
      → get_or lines index 0 < line_count
      → left % 2 ≡ 1
      → Marking lines number (set marks (get_or lines index 0) true) (left / 2) (index + 1)
  unfolding is_in
  marking-more more inside odd = record {
    within = omega arith;
    long = length-set marks (get_or lines index 0) true ∙ at.long;
    is = λ line below.
        rw (get_d_set marks (get_or lines index 0) true line false (omega (arith, at.long)))
        (either (eqb line (get_or lines index 0)) (get_or marks line false) (is_in line (choice_at (drop (index + 1) lines) (left / 2))) ∙
        (rw (left_here more, eq-eqb (left % 2) 1 odd) at (at.is line below)));
  }
    where
      either : (here mark later : Bool) → (cond here true mark || later) ≡ (mark || (here || later))
      either true true later = refl
      either true false later = refl
      either false mark later = refl

  -- the number left is even: this line is not of the choice
  pub marking-same : index < length lines → (left % 2 ≡ 1 → ⊥) → Marking lines number marks (left / 2) (index + 1)
  marking-same more even = record {
    within = omega arith;
    long = at.long;
    is = λ line below. rw (left_here more, ne_eqb (left % 2) 1 even) at (at.is line below);
  }

  -- past the last line the marks are those of the whole choice
  pub marking-ends : length lines ≤ index → marks ≡ marks_of (choice_at lines number)
  unfolding choice_at is_in marks_of
  marking-ends past =
      let whole : ℕ → Bool = λ line. is_in line (choice_at lines number) in
      ext_get_or false marks (tab line_count whole) (at.long ∙ sym (length-tab line_count whole))
      (λ line below.
      let inside : line < line_count = omega (arith, at.long) in
      sym (or-false (get_or marks line false)) ∙
      (rw (drop_of_length-le lines past) at (at.is line inside)) ∙
      sym (get_d-tab line_count whole line false inside))

-- ---- which lines are tried

-- tests that agree find the same lines
lines_same : (test other : ℕ → Bool) (line count : ℕ) → ((at : ℕ) → at < line + count → test at ≡ other at) →
    lines_where test line count ≡ lines_where other line count
unfolding lines_where
lines_same test other line zero agree = refl
lines_same test other line (suc count) agree =
    ap₂ (λ (is_found : Bool) (rest : List ℕ). cond is_found (line ∷ []) [] ++ rest) (agree line (omega arith))
    (lines_same test other (suc line) count (λ at below. agree at (omega arith)))

-- contents that agree on the cells differ in the same lines
differs-same : (seen kept seen' kept' : List ℕ) → take cell_count seen ≡ seen' → take cell_count kept ≡ kept' → (line : ℕ) → line < line_count
    → differs_in seen kept line ≡ differs_in seen' kept' line
unfolding differs_in
differs-same seen kept seen' kept' is_seen is_kept line below =
    search_same 8 _ _
    (λ index in_line.
    ap₂ (λ (new old : ℕ). not (eqb new old)) (at-cell seen seen' is_seen (line * 8 + index) (omega arith))
    (at-cell kept kept' is_kept (line * 8 + index) (omega arith)))
  where
    at-cell : (words cells : List ℕ) → take cell_count words ≡ cells → (cell : ℕ) → cell < cell_count → get_or words cell 0 ≡ get_or cells cell 0
    at-cell words cells are cell in_cells = sym (get_or-take cell_count words cell 0 in_cells) ∙ ap (λ (cells : List ℕ). get_or cells cell 0) are

-- of contents that agree on the cells the same lines are tried
pub lowest-same : (seen kept seen' kept' : List ℕ) → take cell_count seen ≡ seen' → take cell_count kept ≡ kept'
    → lowest_lines seen kept ≡ lowest_lines seen' kept'
unfolding lowest_lines
lowest-same seen kept seen' kept' is_seen is_kept =
    ap (take 8) (lines_same _ _ 0 line_count (λ line below. differs-same seen kept seen' kept' is_seen is_kept line below))

-- ---- a line of which the cells are compared all at once

not_false : (test : Bool) → not test ≡ false → test ≡ true
not_false true is = refl
not_false false is = sym is

module _ (seen kept : List ℕ) (line count : ℕ) (eight : count ≡ 8) (within : line < line_count)
    (all_seen : cell_count ≤ length seen) (all_kept : cell_count ≤ length kept) where
  -- the line's cells
  abbrev part : List ℕ → List ℕ
  part words = take count (drop (line * 8) words)

  part-at : (words : List ℕ) (index : ℕ) → index < 8 → get_or (part words) index 0 ≡ get_or words (line * 8 + index) 0
  part-at words index below = get_or-take count (drop (line * 8) words) index 0 (omega arith) ∙ get_or-drop (line * 8) words index 0

  same-none : part seen ≡ part kept → differs_in seen kept line ≡ false
  unfolding differs_in
  same-none same =
      none-some_below 8 (λ index. not (eqb (get_or seen (line * 8 + index) 0) (get_or kept (line * 8 + index) 0)))
      (λ index below.
      ap not
      (eq-eqb (get_or seen (line * 8 + index) 0) (get_or kept (line * 8 + index) 0)
      (sym (part-at seen index below) ∙ ap (λ (words : List ℕ). get_or words index 0) same ∙ part-at kept index below)))

  none-same : differs_in seen kept line ≡ false → part seen ≡ part kept
  unfolding differs_in
  none-same none =
      ext_get_or 0 (part seen) (part kept) (simp (length-take, length-drop) (omega arith))
      (λ index below.
      let less : index < 8 = omega (arith, length-take count (drop (line * 8) seen)) in
      let fails =
      some_below-none 8 (λ index. not (eqb (get_or seen (line * 8 + index) 0) (get_or kept (line * 8 + index) 0))) none index less in
      part-at seen index less ∙
      eqb-true (get_or seen (line * 8 + index) 0) (get_or kept (line * 8 + index) 0) (not_false _ fails) ∙
      sym (part-at kept index less))

  different : (found : Bool) → differs_in seen kept line ≡ found → (part seen ≡ part kept → ◌≡◌ {A = Bool} false true) →
      differs_in seen kept line ≡ true
  different true is never = is
  different false is never = is ∙ never (none-same is)

  -- the line differs where its cells in the one are not those in the other
  pub differs_by : (same : Bool) → Decides same (part seen ≡ part kept) → not same ≡ differs_in seen kept line
  differs_by true decides = sym (same-none (decides.0 refl))
  differs_by false decides = sym (different (differs_in seen kept line) refl decides.1)
