-- Where every choice's mixture of two contents is the kept one, trying them all finds every one alike.
use Prim.Native.Nat.{ℕ, ◌/◌, ◌≤◌, ◌<◌}
use mathlib.Core.Path.{◌≡◌, refl, sym, ap, ◌∙◌}
use mathlib.Core.Bool.{Bool, true, false, cond, not}
use mathlib.Core.List.{List, [], ◌∷◌}
use native.Mathlib.Omega.{arith}
use borrow.Author.Tests.{eq-eqb, le-ltb}
use lib.ListN.{length, get_or}
use Rattle.answer.specs.Lists.{tab, mix_from}
use Rattle.answer.proofs.BelowLaws.{none-some_below}
use Rattle.answer.proofs.ListLaws.{get_d-tab, get_d-mix_from}
use Rattle.cache.specs.Cache.{cell_count, line_count, line_of}
use Rattle.choices.specs.Choices.{lowest_lines, choices_of}
use Rattle.choices.specs.Counting.{is_in, marks_of, mixed_at, is_alike, count_if, count_alike, alike_choices}

-- every one of a list passes a test that always holds
count_all : {A : Type 0} (test : A → Bool) (list : List A) → ((one : A) → test one ≡ true) → count_if test list ≡ length list
unfolding count_if
count_all test [] always = refl
count_all test (one ∷ rest) always = rw (always one, count_all test rest always) (omega arith)

-- what is counted of two images that have all cells: the choices of the lines in which they differ
pub whole_images : (evicted image seen kept : List ℕ) {lines : List ℕ} {found : ℕ} → cell_count ≤ length evicted
    → cell_count ≤ length image → lines ≡ lowest_lines evicted image → found ≡ count_alike seen kept lines
    → found ≡ alike_choices evicted image seen kept
unfolding alike_choices
whole_images evicted image seen kept is_evicted is_image lines_are counted =
    rw (le-ltb (length evicted) cell_count is_evicted, le-ltb (length image) cell_count is_image)
    (counted ∙ ap (count_alike seen kept) lines_are)

module _ (seen kept : List ℕ) (as_long : length seen ≡ length kept) where
  -- the kept cells with the seen ones in these lines
  abbrev pub mixture_of : List ℕ → List ℕ
  mixture_of lines = mix_from (λ cell. is_in (line_of cell) lines) 0 seen kept

  -- a choice is alike where its mixture is the kept cells
  mixture-alike : (lines : List ℕ) → mixture_of lines ≡ kept → is_alike seen kept (marks_of lines) ≡ true
  unfolding is_alike mixed_at marks_of
  mixture-alike lines same =
      ap not
      (none-some_below cell_count _
      (λ cell below.
      let in_line : cell / 8 < line_count = omega arith in
      let is_marked : get_or (tab line_count (λ line. is_in line lines)) (line_of cell) false ≡ is_in (line_of cell) lines =
      get_d-tab line_count (λ line. is_in line lines) (line_of cell) false in_line in
      let mixed = get_d-mix_from (λ cell. is_in (line_of cell) lines) seen kept cell 0 as_long in
      let unchanged =
      ap (λ (is_in : Bool). cond is_in (get_or seen cell 0) (get_or kept cell 0)) is_marked ∙
      (sym mixed ∙ ap (λ (cells : List ℕ). get_or cells cell 0) same) in
      ap not (eq-eqb _ (get_or kept cell 0) unchanged)))

  -- where all mixtures are the kept cells, all choices are found
  pub all_found : (evicted image : List ℕ) → cell_count ≤ length evicted → cell_count ≤ length image
      → ((lines : List ℕ) → mixture_of lines ≡ kept) → alike_choices evicted image seen kept ≡ length (choices_of (lowest_lines evicted image))
  unfolding count_alike
  all_found evicted image is_evicted is_image same =
      sym (whole_images evicted image seen kept is_evicted is_image refl refl) ∙
      count_all (λ choice. is_alike seen kept (marks_of choice)) (choices_of (lowest_lines evicted image))
      (λ choice. mixture-alike choice (same choice))
