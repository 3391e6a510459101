-- What the three loops over a line make of a list, place by place, and how they come to it: each writes the new list from the front.
use Prim.Native.Nat.{ℕ, ◌+◌, ◌*◌, ◌%◌, ◌≤◌, ◌<◌}
use native.Mathlib.Omega.{arith}
use mathlib.Core.Path.{◌≡◌, ap, ◌∙◌}
use mathlib.Core.Bool.{Bool, true, false}
use mathlib.Core.List.{List}
use lib.ListN.{length, get_or, set}
use lib.Dec.{eqb}
use borrow.Author.Tests.{eq-eqb, ne_eqb}
use Rattle.sizes.specs.Sizes.{thread_count}
use Rattle.answer.specs.Lists.{set_from, mix_from}
use Rattle.answer.proofs.ListLaws.{length-set_from, get_d-set_from, get_d-set_from-kept, get_d-clear_from, length-mix_from, get_d-mix_from, partly}
use Rattle.answer.proofs.ListLaws.{length-partly, partly-to, partly-start, partly-write, partly-keep, partly-done, partly-all}
use Rattle.cache.specs.Cache.{line_count, line_of}

-- ---- two lists that differ in the eight cells of a line alone
module _ {A : Type 0} (new old : List A) (d : A) (line : ℕ) (long : length new ≡ length old)
    (outside : (cell : ℕ) → (line_of cell ≡ line → ⊥) → get_or new cell d ≡ get_or old cell d) where
  line-starts : old ≡ partly (line * 8) new old
  line-starts = partly-start new old d long (line * 8) (λ cell below. outside cell (omega arith))

  line-done : (cell : ℕ) → line * 8 + 8 ≤ cell → partly cell new old ≡ new
  line-done cell le = partly-done new old d long cell (λ i past. outside i (omega arith))

-- ---- a walk over the lines, each of which it changes or leaves
module _ {A : Type 0} (new old : List A) (d : A) (line : ℕ) (long : length new ≡ length old) (list : List A)
    (before : list ≡ partly (line * 8) new old) where
  -- the line's cells are written
  pub walk_turn : (after : List A) → length after ≡ length list →
      ((cell : ℕ) → line_of cell ≡ line → get_or after cell d ≡ get_or new cell d) →
      ((cell : ℕ) → (line_of cell ≡ line → ⊥) → get_or after cell d ≡ get_or list cell d) →
      after ≡ partly ((line + 1) * 8) new old
  walk_turn after as_long inside outside =
      partly-to new old d long (line * 8) ((line + 1) * 8) after
      (as_long ∙ ap length before ∙ length-partly new old d long (line * 8)) (omega arith)
      (λ cell past less. inside cell (omega arith))
      (λ cell less. outside cell (omega arith) ∙ ap (λ (l : List A). get_or l cell d) before)
      (λ cell past. outside cell (omega arith) ∙ ap (λ (l : List A). get_or l cell d) before)

  -- the line's cells are to stay
  pub walk-skip : ((cell : ℕ) → line_of cell ≡ line → get_or new cell d ≡ get_or old cell d) → list ≡ partly ((line + 1) * 8) new old
  walk-skip same =
      before ∙ partly-keep new old d long (line * 8) ((line + 1) * 8) (omega arith) (λ cell past less. same cell (omega arith))

-- ---- a line's cells are copied from another list
abbrev pub copied : ℕ → List ℕ → List ℕ → List ℕ
copied line from to = mix_from (λ cell. eqb (line_of cell) line) 0 from to

module _ (line : ℕ) (from to : List ℕ) (long : length from ≡ length to) where
  pub copied-long : length (copied line from to) ≡ length to
  copied-long = length-mix_from (λ cell. eqb (line_of cell) line) 0 from to

  pub copied-inside : (cell : ℕ) → line_of cell ≡ line → get_or (copied line from to) cell 0 ≡ get_or from cell 0
  copied-inside cell same =
      get_d-mix_from (λ k. eqb (line_of k) line) from to cell 0 long ∙ rw (eq-eqb (line_of cell) line same)

  pub copied-outside : (cell : ℕ) → (line_of cell ≡ line → ⊥) → get_or (copied line from to) cell 0 ≡ get_or to cell 0
  copied-outside cell other =
      get_d-mix_from (λ k. eqb (line_of k) line) from to cell 0 long ∙ rw (ne_eqb (line_of cell) line other)

  pub copied-starts : to ≡ partly (line * 8) (copied line from to) to
  copied-starts = line-starts (copied line from to) to 0 line copied-long copied-outside

  pub copied-turn : (cell : ℕ) → line * 8 ≤ cell → cell < line * 8 + 8 → cell < length to →
      set (partly cell (copied line from to) to) cell (get_or from cell 0) ≡ partly (cell + 1) (copied line from to) to
  copied-turn cell past before below =
      partly-write (copied line from to) to 0 copied-long cell (get_or from cell 0) below (copied-inside cell (omega arith))

  pub copied-done : (cell : ℕ) → line * 8 + 8 ≤ cell → partly cell (copied line from to) to ≡ copied line from to
  copied-done = line-done (copied line from to) to 0 line copied-long copied-outside

-- ---- a line's cells are marked
abbrev pub marked : ℕ → List Bool → List Bool
marked line flags = set_from (λ cell. eqb (line_of cell) line) true 0 flags

module _ (line : ℕ) (flags : List Bool) where
  pub marked-long : length (marked line flags) ≡ length flags
  marked-long = length-set_from (λ cell. eqb (line_of cell) line) true 0 flags

  pub marked-inside : (cell : ℕ) → line_of cell ≡ line → cell < length flags → get_or (marked line flags) cell false ≡ true
  marked-inside cell same below =
      get_d-set_from (λ k. eqb (line_of k) line) true flags cell false below ∙ rw (eq-eqb (line_of cell) line same)

  pub marked-outside : (cell : ℕ) → (line_of cell ≡ line → ⊥) → get_or (marked line flags) cell false ≡ get_or flags cell false
  marked-outside cell other =
      get_d-set_from-kept (λ k. eqb (line_of k) line) true flags cell false (ne_eqb (line_of cell) line other)

-- ---- every thread's pending flush of a line is dropped
abbrev pub cleared : ℕ → List Bool → List Bool
cleared line pending = set_from (λ place. eqb (place % line_count) line) false 0 pending

module _ (line : ℕ) (pending : List Bool) (within : line < line_count) (long : length pending ≡ thread_count * line_count) where
  cleared-long : length (cleared line pending) ≡ length pending
  cleared-long = length-set_from (λ place. eqb (place % line_count) line) false 0 pending

  cleared-inside : (place : ℕ) → place % line_count ≡ line → get_or (cleared line pending) place false ≡ false
  cleared-inside place same =
      get_d-clear_from (λ k. eqb (k % line_count) line) pending place false ∙ rw (eq-eqb (place % line_count) line same)

  cleared-outside : (place : ℕ) → (place % line_count ≡ line → ⊥) → get_or (cleared line pending) place false ≡ get_or pending place false
  cleared-outside place other =
      get_d-clear_from (λ k. eqb (k % line_count) line) pending place false ∙ rw (ne_eqb (place % line_count) line other)

  pub cleared-starts : pending ≡ partly (0 * 16 + line) (cleared line pending) pending
  cleared-starts =
      partly-start (cleared line pending) pending false cleared-long (0 * 16 + line) (λ place below. cleared-outside place (omega arith))

  pub cleared-turn : (thread : ℕ) → thread < thread_count →
      set (partly (thread * 16 + line) (cleared line pending) pending) (thread * 16 + line) false ≡
      partly ((thread + 1) * 16 + line) (cleared line pending) pending
  cleared-turn thread below =
      partly-write (cleared line pending) pending false cleared-long (thread * 16 + line) false (omega arith)
      (cleared-inside (thread * 16 + line) (omega arith)) ∙
      partly-keep (cleared line pending) pending false cleared-long (thread * 16 + line + 1) ((thread + 1) * 16 + line)
      (omega arith) (λ place past before. cleared-outside place (omega arith))

  pub cleared-done : (thread : ℕ) → thread_count ≤ thread → partly (thread * 16 + line) (cleared line pending) pending ≡ cleared line pending
  cleared-done thread le = partly-all (cleared line pending) pending false cleared-long (thread * 16 + line) (omega arith)
