-- Images of a machine with lines evicted: each has the seen cells in those lines, the kept ones in the others, and the same logs. So the
-- image of every choice is a mixture of two: the one with nothing evicted, and the one with every cell evicted.
use Prim.Native.Nat.{ℕ, zero, suc, ◌+◌, ◌<◌, ◌/◌}
use mathlib.Core.Path.{◌≡◌, refl, sym, ap, ap₂, ◌∙◌}
use mathlib.Core.Bool.{Bool, true, false, cond, ◌||◌}
use mathlib.Core.List.{List, [], ◌∷◌, ◌++◌, map, flatten}
use native.Mathlib.Omega.{arith}
use borrow.Author.Tests.{eq-eqb}
use lib.ListN.{length, get_or, take, drop, length-append}
use lib.Seq.{ext_get_or, take-append_seam, drop-append_seam}
use lib.Dec.{eqb}
use Rattle.answer.specs.Lists.{tab, mix_from}
use Rattle.answer.proofs.ListLaws.{length-mix_from, get_d-mix_from, mix_from-none}
use Rattle.cache.specs.Cache.{cell_count, line_count, line_of, evict_of}
use Rattle.cache.specs.declared.Cache.{Cache}
use Rattle.cache.proofs.CacheLaws as CacheLaws
use Rattle.cache.proofs.CacheLaws.{with_persisted}
use Rattle.entry.specs.Words.{words_of}
use Rattle.reader.specs.Stretch.{heads_at, image_words}
use Rattle.machine.specs.Holds.{with_cache}
use Rattle.machine.specs.Image.{image_of}
use Rattle.machine.specs.Runs.{after, evict_steps, evict_all, Reached}
use Rattle.machine.specs.State.{Machine}
use Rattle.machine.proofs.Evictions.{all-evicted}
use Rattle.machine.proofs.ImageWritten.{reads}
use Rattle.machine.proofs.Reaching.{after_append}
use Rattle.recovery.proofs.MixLaws.{mixed_image}
use Rattle.laws.specs.AnyEviction.{evictions}
use Rattle.laws.proofs.RetiredEvictHolds.{cache-sized, line-evicted}
use Rattle.choices.specs.Counting.{is_in}

-- ---- evictions

-- the cells of some lines have their seen content kept
abbrev evicted : Cache → List ℕ → Cache
evicted cache lines = with_persisted cache (mix_from (λ cell. is_in (line_of cell) lines) 0 cache.cached cache.persisted)

-- a choice by the later lines, or else by the first one, is a choice by either
either : (is_later is_first : Bool) (new old : ℕ) → cond is_later new (cond is_first new old) ≡ cond (is_first || is_later) new old
either true true new old = refl
either true false new old = refl
either false true new old = refl
either false false new old = refl

module _ (cache : Cache) (line : ℕ) (lines : List ℕ) (sized : CacheLaws.Sized cache) where
  abbrev seen : List ℕ
  seen = cache.cached

  abbrev kept : List ℕ
  kept = cache.persisted

  abbrev is_first : ℕ → Bool
  is_first cell = eqb (line_of cell) line

  abbrev is_later : ℕ → Bool
  is_later cell = is_in (line_of cell) lines

  abbrev is_any : ℕ → Bool
  is_any cell = is_in (line_of cell) (line ∷ lines)

  as_long : length seen ≡ length kept
  as_long = sized.cached-long ∙ sym sized.persisted-long

  -- evicting one line and then others is evicting all of them
  evict-then : evicted (evict_of cache line) lines ≡ evicted cache (line ∷ lines)
  unfolding evict_of is_in
  evict-then =
      let once : List ℕ = mix_from is_first 0 seen kept in
      ap (with_persisted cache)
      (ext_get_or 0 (mix_from is_later 0 seen once) (mix_from is_any 0 seen kept)
      (length-mix_from is_later 0 seen once ∙ (length-mix_from is_first 0 seen kept ∙ sym (length-mix_from is_any 0 seen kept)))
      (λ cell below.
      get_d-mix_from is_later seen once cell 0 (as_long ∙ sym (length-mix_from is_first 0 seen kept)) ∙
      (ap (cond (is_later cell) (get_or seen cell 0)) (get_d-mix_from is_first seen kept cell 0 as_long) ∙
      (either (is_later cell) (is_first cell) (get_or seen cell 0) (get_or kept cell 0) ∙ sym (get_d-mix_from is_any seen kept cell 0 as_long)))))

-- the machine after the evictions of any lines
pub after-evictions : (machine : Machine) (lines : List ℕ) → CacheLaws.Sized machine.cache →
    after machine (evictions lines) ≡ with_cache machine (evicted machine.cache lines)
unfolding after evictions is_in flatten
after-evictions machine [] sized =
    ap (λ (kept : List ℕ). with_cache machine (with_persisted machine.cache kept))
    (sym (mix_from-none (λ cell. false) machine.cache.cached machine.cache.persisted (λ i below. refl)))
after-evictions machine (line ∷ lines) sized =
    after_append machine (evict_steps line) (evictions lines) ∙
    (ap (λ (next : Machine). after next (evictions lines)) (line-evicted machine line sized) ∙
    (after-evictions (with_cache machine (evict_of machine.cache line)) lines (CacheLaws.evict_of-sized machine.cache sized line) ∙
    ap (with_cache machine) (evict-then machine.cache line lines sized)))

-- ---- images

-- a number of a table is in it
in_tab : (count : ℕ) (f : ℕ → ℕ) (index : ℕ) → index < count → is_in (f index) (tab count f) ≡ true
unfolding tab is_in
in_tab zero f index below = absurd (omega arith)
in_tab (suc count) f zero below = rw (eq-eqb (f 0) (f 0) refl)
in_tab (suc count) f (suc index) below =
    rw (in_tab count (λ index. f (suc index)) index (omega arith)) (or_true (eqb (f (suc index)) (f 0)))
  where
    or_true : (first : Bool) → (first || true) ≡ true
    or_true true = refl
    or_true false = refl

-- the words behind the cells: heads and logs
abbrev log_words : Machine → List ℕ
log_words machine = map (λ log. log.head.0) machine.logs ++ flatten (map (λ log. words_of log.persisted) machine.logs)

module _ (machine : Machine) (reached : Reached machine) where
  abbrev sized : CacheLaws.Sized machine.cache
  sized = cache-sized machine reached

  abbrev is_any_line : ℕ → Bool
  is_any_line cell = is_in (line_of cell) (tab line_count (λ line. line))

  -- the lines of all cells are evicted: every cell has its seen content
  every-line : mix_from is_any_line 0 machine.cache.cached machine.cache.persisted ≡ machine.cache.cached
  every-line =
      ext_get_or 0 _ machine.cache.cached
      (length-mix_from is_any_line 0 machine.cache.cached machine.cache.persisted ∙ (sized.persisted-long ∙ sym sized.cached-long))
      (λ cell below.
      let in_line : cell / 8 < line_count =
      omega (arith, below, length-mix_from is_any_line 0 machine.cache.cached machine.cache.persisted, sized.persisted-long) in
      get_d-mix_from is_any_line machine.cache.cached machine.cache.persisted cell 0
      (sized.cached-long ∙ sym sized.persisted-long) ∙
      ap (λ (is_any : Bool). cond is_any (get_or machine.cache.cached cell 0) (get_or machine.cache.persisted cell 0))
      (in_tab line_count (λ line. line) (line_of cell) in_line))

  -- the image with any lines evicted
  image-of : (lines : List ℕ)
      → image_of (after machine (evictions lines)) ≡
      mix_from (λ cell. is_in (line_of cell) lines) 0 machine.cache.cached machine.cache.persisted ++
      log_words machine
  unfolding image_of
  image-of lines = ap image_of (after-evictions machine lines sized)

  -- the image with every cell evicted
  abbrev pub seen_image : List ℕ
  seen_image = image_of (after machine evict_all)

  -- where an image begins with 128 cells, these are its cells and the others the words behind them
  cells_of : (cells words : List ℕ) → length cells ≡ cell_count → take heads_at (cells ++ words) ≡ cells
  cells_of cells words is_length = ap (λ (count : ℕ). take count (cells ++ words)) (sym is_length) ∙ take-append_seam cells words

  behind-cells : (cells words : List ℕ) → length cells ≡ cell_count → drop heads_at (cells ++ words) ≡ words
  behind-cells cells words is_length = ap (λ (count : ℕ). drop count (cells ++ words)) (sym is_length) ∙ drop-append_seam cells words

  seen-is : seen_image ≡ machine.cache.cached ++ log_words machine
  unfolding image_of
  seen-is = ap image_of (all-evicted machine sized)

  -- with every line evicted it is the same
  pub lines-seen : image_of (after machine (evictions (tab line_count (λ line. line)))) ≡ seen_image
  lines-seen =
      image-of (tab line_count (λ line. line)) ∙ (ap (λ (cells : List ℕ). cells ++ log_words machine) every-line ∙ sym seen-is)

  kept-is : image_of machine ≡ machine.cache.persisted ++ log_words machine
  unfolding image_of
  kept-is = refl

  -- the images with every cell evicted and with none have the seen and the kept cells, and the same words behind them
  pub seen-cells : take heads_at seen_image ≡ machine.cache.cached
  seen-cells = ap (take heads_at) seen-is ∙ cells_of machine.cache.cached (log_words machine) sized.cached-long

  pub kept-cells : take heads_at (image_of machine) ≡ machine.cache.persisted
  kept-cells = ap (take heads_at) kept-is ∙ cells_of machine.cache.persisted (log_words machine) sized.persisted-long

  kept-logs : drop heads_at (image_of machine) ≡ log_words machine
  kept-logs = ap (drop heads_at) kept-is ∙ behind-cells machine.cache.persisted (log_words machine) sized.persisted-long

  pub same-logs : drop heads_at seen_image ≡ drop heads_at (image_of machine)
  same-logs = ap (drop heads_at) seen-is ∙ (behind-cells machine.cache.cached (log_words machine) sized.cached-long ∙ sym kept-logs)

  pub kept-long : length (image_of machine) ≡ image_words
  kept-long = (reads machine reached sized.persisted-long).length_is

  pub seen-long : length seen_image ≡ image_words
  seen-long =
      ap length seen-is ∙
      (length-append machine.cache.cached (log_words machine) ∙
      (ap (λ (count : ℕ). count + length (log_words machine)) (sized.cached-long ∙ sym sized.persisted-long) ∙
      (sym (length-append machine.cache.persisted (log_words machine)) ∙ (ap length (sym kept-is) ∙ kept-long))))

  -- the image of every choice is mixed of the images with every cell evicted and with none
  pub evicted-image : (lines : List ℕ) →
      image_of (after machine (evictions lines)) ≡ mixed_image (λ cell. is_in (line_of cell) lines) seen_image (image_of machine)
  evicted-image lines =
      image-of lines ∙
      sym (ap₂ (λ (cells words : List ℕ). cells ++ words)
      (ap₂ (λ (seen kept : List ℕ). mix_from (λ cell. is_in (line_of cell) lines) 0 seen kept) seen-cells kept-cells) kept-logs)
