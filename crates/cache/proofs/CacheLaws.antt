-- What each change of a cache does to what the cache holds at each cell, line and thread. Callers cite these laws in place of the
-- definitions' text.
use Prim.Native.Nat.{ℕ, zero, suc, ◌+◌, ◌*◌, ◌/◌, ◌%◌, ◌≤◌, ◌<◌}
use native.Mathlib.Decide.{dec_lt, ℕ_discrete}
use native.Mathlib.Omega.{arith}
use mathlib.Core.Path.{◌≡◌, refl, sym, ap, ◌∙◌}
use mathlib.Core.Logic.{by_cases}
use mathlib.Core.Bool.{Bool, true, false, cond, ◌&&◌, false≢true}
use mathlib.Core.List.{List, ◌++◌}
use lib.ListN.{length, get_or, set, drop, length-set, length-replicate, get_or-eq_default}
use lib.Seq.{ext_get_or, set_out, get_or-set_same, get_or-set_other}
use lib.Dec.{eqb}
use borrow.Author.Tests.{lt-ltb, le-ltb, eq-eqb, ne_eqb}
use Rattle.sizes.specs.Sizes.{thread_count}
use Rattle.answer.specs.Lists.{set_from}
use Rattle.answer.proofs.ListLaws.{get_d-unset, length-set_from, get_d-set_from, get_d-clear_from, set_from-none, length-mix_from, get_d-mix_from}
use Rattle.answer.proofs.ListLaws.{mix_from-none, partly}
use Rattle.cache.specs.Cache.{cell_count, line_count, line_of, pending_place, cached_at, persisted_at, is_durable, is_pending, cache_of}
use Rattle.cache.specs.Cache.{store_of, flush_of, fence_of, evict_of, evict_cell_of, persisted_into}
use Rattle.cache.specs.declared.Cache.{Cache}
use Rattle.cache.proofs.Lines.{copied, copied-starts, copied-turn, copied-done}

-- a cache with as many cells and pending flushes as the machine has; every value of the struct is one
pub record Sized (cache : Cache) : Type 0 where
  pub cached-long : length cache.cached ≡ cell_count
  pub persisted-long : length cache.persisted ≡ cell_count
  pub durable-long : length cache.durable ≡ cell_count
  pub pending-long : length cache.pending ≡ thread_count * line_count

-- the persisted content of a durable cell is its cached content
pub record DurableKept (cache : Cache) : Type 0 where
  pub kept : (cell : ℕ) → is_durable cache cell ≡ true → persisted_at cache cell ≡ cached_at cache cell

-- the cache with the thread's flush of the line pending
abbrev pub flushed : Cache → ℕ → ℕ → Cache
flushed cache thread line = record {
  cached = cache.cached;
  persisted = cache.persisted;
  durable = cache.durable;
  pending = set cache.pending (pending_place thread line) true;
}

-- the cache with other persisted contents
abbrev pub with_persisted : Cache → List ℕ → Cache
with_persisted cache persisted = record {
  cached = cache.cached;
  persisted = persisted;
  durable = cache.durable;
  pending = cache.pending;
}

-- the first so many cells of a line are evicted, one after the other
unfoldable pub evict_cells_of : Cache → ℕ → ℕ → Cache
evict_cells_of cache line zero = cache
evict_cells_of cache line (suc count) = evict_cell_of (evict_cells_of cache line count) (line * 8 + count)

-- ---- the start
module _ (words : List ℕ) where
  pub cache_of-sized : length words ≡ cell_count → Sized (cache_of words)
  unfolding cache_of
  cache_of-sized long = record {
    cached-long = long;
    persisted-long = long;
    durable-long = length-replicate cell_count true;
    pending-long = length-replicate (thread_count * line_count) false;
  }

  pub cache_of-cached : (cell : ℕ) → cached_at (cache_of words) cell ≡ get_or words cell 0
  unfolding cache_of
  cache_of-cached cell = refl

  pub cache_of-persisted : (cell : ℕ) → persisted_at (cache_of words) cell ≡ get_or words cell 0
  unfolding cache_of
  cache_of-persisted cell = refl

  pub cache_of-kept : DurableKept (cache_of words)
  unfolding cache_of
  cache_of-kept = record { kept = λ cell durable. refl }

-- ---- past the last cell and the last thread
module _ (cache : Cache) (sized : Sized cache) where
  pub is_durable-out : (cell : ℕ) → cell_count ≤ cell → is_durable cache cell ≡ false
  is_durable-out cell out = get_or-eq_default cache.durable false {n = cell} (omega (arith, sized.durable-long))

  pub is_pending-out : (thread line : ℕ) → thread_count ≤ thread → is_pending cache thread line ≡ false
  is_pending-out thread line out =
      get_or-eq_default cache.pending false {n = pending_place thread line} (omega (arith, sized.pending-long))

-- an eviction persists the cached contents of some cells, and makes no cell durable
evicted-kept : (cache evicted : Cache) → DurableKept cache → (is_evicted : ℕ → Bool) →
    ((cell : ℕ) → cached_at evicted cell ≡ cached_at cache cell) →
    ((cell : ℕ) → persisted_at evicted cell ≡ cond (is_evicted cell) (cached_at cache cell) (persisted_at cache cell)) →
    ((cell : ℕ) → is_durable evicted cell ≡ is_durable cache cell) → DurableKept evicted
evicted-kept cache evicted was is_evicted cached persisted durable = record {
  kept = λ cell is_firm.
      persisted cell ∙
      either (is_evicted cell) (cached_at cache cell) (persisted_at cache cell) (was.kept cell (sym (durable cell) ∙ is_firm)) ∙
      sym (cached cell);
}
  where
    either : (test : Bool) (cached persisted : ℕ) → persisted ≡ cached → cond test cached persisted ≡ cached
    either true cached persisted same = refl
    either false cached persisted same = same

module _ (cache : Cache) (sized : Sized cache) where
  -- ---- a store

  module _ (cell value : ℕ) where
    pub store_of-sized : Sized (store_of cache cell value)
    unfolding store_of
    store_of-sized = record {
      cached-long = length-set cache.cached cell value ∙ sized.cached-long;
      persisted-long = sized.persisted-long;
      durable-long = length-set cache.durable cell false ∙ sized.durable-long;
      pending-long = length-set_from (λ place. eqb (place % line_count) (line_of cell)) false 0 cache.pending ∙ sized.pending-long;
    }

    pub store_of-persisted : (other : ℕ) → persisted_at (store_of cache cell value) other ≡ persisted_at cache other
    unfolding store_of
    store_of-persisted other = refl

    pub store_of-durable : (other : ℕ) → is_durable (store_of cache cell value) other ≡ cond (eqb other cell) false (is_durable cache other)
    unfolding store_of
    store_of-durable other = get_d-unset cache.durable cell other false

    -- a cell that is out of range changes nothing
    pub store_of-out : cell_count ≤ cell → store_of cache cell value ≡ cache
    unfolding store_of
    store_of-out out = λ i. record {
      cached = set_out cache.cached cell value (omega (arith, sized.cached-long)) i;
      persisted = cache.persisted;
      durable = set_out cache.durable cell false (omega (arith, sized.durable-long)) i;
      pending =
          set_from-none (λ place. eqb (place % line_count) (line_of cell)) false cache.pending
          (λ place below. ne_eqb (place % line_count) (line_of cell) (omega arith)) i;
    }

    pub store_of-kept : DurableKept cache → DurableKept (store_of cache cell value)
    unfolding store_of
    store_of-kept was = record {
      kept = λ other durable.
          by_cases (ℕ_discrete other cell)
          (λ same. absurd (false≢true (sym (store_of-durable other ∙ rw (eq-eqb other cell same)) ∙ durable)))
          (λ differ.
          was.kept other (sym (get_or-set_other cache.durable cell other false false differ) ∙ durable) ∙
          sym (get_or-set_other cache.cached cell other value 0 differ));
    }

  -- ---- a flush

  module _ (thread line : ℕ) where
    -- what holds of the cache with the flush pending, where the thread and the line are in range, and of the cache as it was
    flush_of-by : (P : Cache → Type 0) → (thread < thread_count → line < line_count → P (flushed cache thread line)) →
        P cache → P (flush_of cache thread line)
    unfolding flush_of
    flush_of-by P put out =
        by_cases (dec_lt thread thread_count)
        (λ below.
        by_cases (dec_lt line line_count)
        (λ within. rw (lt-ltb thread thread_count below, lt-ltb line line_count within) (put below within))
        (λ past. rw (lt-ltb thread thread_count below, le-ltb line line_count (omega arith)) out))
        (λ past. rw (le-ltb thread thread_count (omega arith)) out)

    pub flush_of-in : thread < thread_count → line < line_count → flush_of cache thread line ≡ flushed cache thread line
    unfolding flush_of
    flush_of-in below within = rw (lt-ltb thread thread_count below, lt-ltb line line_count within)

    pub flush_of-sized : Sized (flush_of cache thread line)
    flush_of-sized =
        flush_of-by Sized
        (λ below within. record {
          cached-long = sized.cached-long;
          persisted-long = sized.persisted-long;
          durable-long = sized.durable-long;
          pending-long = length-set cache.pending (pending_place thread line) true ∙ sized.pending-long;
        })
        sized

    pub flush_of-cached : (cell : ℕ) → cached_at (flush_of cache thread line) cell ≡ cached_at cache cell
    flush_of-cached cell = flush_of-by (λ c. cached_at c cell ≡ cached_at cache cell) (λ below within. refl) refl

    pub flush_of-persisted : (cell : ℕ) → persisted_at (flush_of cache thread line) cell ≡ persisted_at cache cell
    flush_of-persisted cell = flush_of-by (λ c. persisted_at c cell ≡ persisted_at cache cell) (λ below within. refl) refl

    -- no proof cites this law: it notices wrong definitions of the marks (docs/WRONG-DEFINITIONS.md)
    pub flush_of-pending : (other at : ℕ) → other < thread_count → at < line_count →
        is_pending (flush_of cache thread line) other at ≡ cond (eqb other thread && eqb at line) true (is_pending cache other at)
    flush_of-pending other at below within =
        by_cases (ℕ_discrete other thread)
        (λ same.
        by_cases (ℕ_discrete at line)
        (λ here. rw (eq-eqb other thread same, eq-eqb at line here)
        (ap (λ (c : Cache). is_pending c other at) (flush_of-in (omega arith) (omega arith)) ∙
        rw (same, here) (get_or-set_same cache.pending (pending_place thread line) true false (omega (arith, sized.pending-long)))))
        (λ elsewhere. rw (eq-eqb other thread same, ne_eqb at line elsewhere) (kept (omega arith))))
        (λ differs. rw (ne_eqb other thread differs) (kept (omega arith)))
      where
        kept : (thread < thread_count → line < line_count → pending_place other at ≡ pending_place thread line → ⊥) →
            is_pending (flush_of cache thread line) other at ≡ is_pending cache other at
        kept differs =
            flush_of-by (λ c. is_pending c other at ≡ is_pending cache other at)
            (λ in_thread in_line.
            get_or-set_other cache.pending (pending_place thread line) (pending_place other at) true false (differs in_thread in_line))
            refl

    pub flush_of-kept : DurableKept cache → DurableKept (flush_of cache thread line)
    flush_of-kept was = flush_of-by DurableKept (λ below within. record { kept = was.kept }) was

  -- ---- a fence

  module _ (thread : ℕ) where
    pub fence_of-sized : Sized (fence_of cache thread)
    unfolding fence_of
    fence_of-sized = record {
      cached-long = sized.cached-long;
      persisted-long =
          length-mix_from (λ cell. is_pending cache thread (line_of cell)) 0 cache.cached cache.persisted ∙ sized.persisted-long;
      durable-long = length-set_from (λ cell. is_pending cache thread (line_of cell)) true 0 cache.durable ∙ sized.durable-long;
      pending-long = length-set_from (λ place. eqb (place / line_count) thread) false 0 cache.pending ∙ sized.pending-long;
    }

    pub fence_of-cached : (cell : ℕ) → cached_at (fence_of cache thread) cell ≡ cached_at cache cell
    unfolding fence_of
    fence_of-cached cell = refl

    pub fence_of-persisted : (cell : ℕ) →
        persisted_at (fence_of cache thread) cell ≡ cond (is_pending cache thread (line_of cell)) (cached_at cache cell) (persisted_at cache cell)
    unfolding fence_of
    fence_of-persisted cell =
        get_d-mix_from (λ k. is_pending cache thread (line_of k)) cache.cached cache.persisted cell 0
        (sized.cached-long ∙ sym sized.persisted-long)

    pub fence_of-durable : (cell : ℕ) → cell < cell_count →
        is_durable (fence_of cache thread) cell ≡ cond (is_pending cache thread (line_of cell)) true (is_durable cache cell)
    unfolding fence_of
    fence_of-durable cell below =
        get_d-set_from (λ k. is_pending cache thread (line_of k)) true cache.durable cell false (omega (arith, sized.durable-long))

    pub fence_of-pending : (other line : ℕ) → line < line_count →
        is_pending (fence_of cache thread) other line ≡ cond (eqb other thread) false (is_pending cache other line)
    unfolding fence_of
    fence_of-pending other line within =
        get_d-clear_from (λ place. eqb (place / line_count) thread) cache.pending (pending_place other line) false ∙
        ap (λ (k : ℕ). cond (eqb k thread) false (is_pending cache other line)) (omega arith)

    -- a thread that has no flush pending changes nothing
    pub fence_of-idle : ((line : ℕ) → line < line_count → is_pending cache thread line ≡ false) → fence_of cache thread ≡ cache
    unfolding fence_of
    fence_of-idle idle = λ i. record {
      cached = cache.cached;
      persisted =
          mix_from-none (λ cell. is_pending cache thread (line_of cell)) cache.cached cache.persisted
          (λ cell below. idle (line_of cell) (omega (arith, sized.persisted-long))) i;
      durable =
          set_from-none (λ cell. is_pending cache thread (line_of cell)) true cache.durable
          (λ cell below. idle (line_of cell) (omega (arith, sized.durable-long))) i;
      pending =
          ext_get_or false (set_from (λ place. eqb (place / line_count) thread) false 0 cache.pending) cache.pending
          (length-set_from (λ place. eqb (place / line_count) thread) false 0 cache.pending)
          (λ place below.
          get_d-clear_from (λ place. eqb (place / line_count) thread) cache.pending place false ∙ cleared place) i;
    }
      where
        cleared : (place : ℕ) →
            cond (eqb (place / line_count) thread) false (get_or cache.pending place false) ≡ get_or cache.pending place false
        cleared place =
            by_cases (ℕ_discrete (place / line_count) thread)
            (λ same.
            let here : pending_place thread (place % line_count) ≡ place = omega arith in
            rw (eq-eqb (place / line_count) thread same)
            (sym (ap (λ (k : ℕ). get_or cache.pending k false) (sym here) ∙ idle (place % line_count) (omega arith))))
            (λ differs. rw (ne_eqb (place / line_count) thread differs))

    -- a thread that is out of range changes nothing
    pub fence_of-out : thread_count ≤ thread → fence_of cache thread ≡ cache
    fence_of-out out = fence_of-idle (λ line within. is_pending-out cache sized thread line out)

    pub fence_of-kept : DurableKept cache → DurableKept (fence_of cache thread)
    fence_of-kept was = record {
      kept = λ cell durable.
          by_cases (dec_lt cell cell_count)
          (λ below.
          fence_of-persisted cell ∙
          settled (is_pending cache thread (line_of cell)) (is_durable cache cell) (cached_at cache cell)
          (persisted_at cache cell) (was.kept cell) (sym (fence_of-durable cell below) ∙ durable) ∙
          sym (fence_of-cached cell))
          (λ past. absurd (false≢true (sym (is_durable-out (fence_of cache thread) fence_of-sized cell (omega arith)) ∙ durable)));
    }
      where
        settled : (pending durable : Bool) (cached persisted : ℕ) → (durable ≡ true → persisted ≡ cached) →
            cond pending true durable ≡ true → cond pending cached persisted ≡ cached
        settled true durable cached persisted was now = refl
        settled false durable cached persisted was now = was now

  -- ---- an eviction of a cell

  module _ (cell : ℕ) where
    pub evict_cell_of-sized : Sized (evict_cell_of cache cell)
    unfolding evict_cell_of
    evict_cell_of-sized = record {
      cached-long = sized.cached-long;
      persisted-long = length-set cache.persisted cell (cached_at cache cell) ∙ sized.persisted-long;
      durable-long = sized.durable-long;
      pending-long = sized.pending-long;
    }

    pub evict_cell_of-cached : (other : ℕ) → cached_at (evict_cell_of cache cell) other ≡ cached_at cache other
    unfolding evict_cell_of
    evict_cell_of-cached other = refl

    pub evict_cell_of-persisted : (other : ℕ) →
        persisted_at (evict_cell_of cache cell) other ≡ cond (eqb other cell) (cached_at cache other) (persisted_at cache other)
    unfolding evict_cell_of
    evict_cell_of-persisted other =
        by_cases (ℕ_discrete other cell)
        (λ same. rw (eq-eqb other cell same) (rw same here))
        (λ differs. rw (ne_eqb other cell differs) (get_or-set_other cache.persisted cell other (cached_at cache cell) 0 differs))
      where
        here : persisted_at (evict_cell_of cache cell) cell ≡ cached_at cache cell
        here =
            by_cases (dec_lt cell cell_count)
            (λ below. get_or-set_same cache.persisted cell (cached_at cache cell) 0 (omega (arith, sized.persisted-long)))
            (λ past.
            get_or-eq_default (evict_cell_of cache cell).persisted 0 {n = cell} (omega (arith, evict_cell_of-sized.persisted-long)) ∙
            sym (get_or-eq_default cache.cached 0 {n = cell} (omega (arith, sized.cached-long))))

    pub evict_cell_of-durable : (other : ℕ) → is_durable (evict_cell_of cache cell) other ≡ is_durable cache other
    unfolding evict_cell_of
    evict_cell_of-durable other = refl

    -- a cell that is out of range changes nothing
    pub evict_cell_of-out : cell_count ≤ cell → evict_cell_of cache cell ≡ cache
    unfolding evict_cell_of
    evict_cell_of-out out =
        ap (with_persisted cache) (set_out cache.persisted cell (cached_at cache cell) (omega (arith, sized.persisted-long)))

    pub evict_cell_of-kept : DurableKept cache → DurableKept (evict_cell_of cache cell)
    evict_cell_of-kept was =
        evicted-kept cache (evict_cell_of cache cell) was (λ other. eqb other cell) evict_cell_of-cached evict_cell_of-persisted
        evict_cell_of-durable

  -- ---- an eviction of a line, as the retired step made it

  module _ (line : ℕ) where
    pub evict_of-sized : Sized (evict_of cache line)
    unfolding evict_of
    evict_of-sized = record {
      cached-long = sized.cached-long;
      persisted-long = length-mix_from (λ cell. eqb (line_of cell) line) 0 cache.cached cache.persisted ∙ sized.persisted-long;
      durable-long = sized.durable-long;
      pending-long = sized.pending-long;
    }

    -- a line that is out of range changes nothing
    pub evict_of-out : line_count ≤ line → evict_of cache line ≡ cache
    unfolding evict_of
    evict_of-out out = λ i. record {
      cached = cache.cached;
      persisted =
          mix_from-none (λ cell. eqb (line_of cell) line) cache.cached cache.persisted
          (λ cell below. ne_eqb (line_of cell) line (omega (arith, sized.persisted-long))) i;
      durable = cache.durable;
      pending = cache.pending;
    }

    as_long : length cache.cached ≡ length cache.persisted
    as_long = sized.cached-long ∙ sym sized.persisted-long

    up_to : (place end : ℕ) → place ≡ end →
        with_persisted cache (partly place (copied line cache.cached cache.persisted) cache.persisted) ≡
        with_persisted cache (partly end (copied line cache.cached cache.persisted) cache.persisted)
    up_to place end same =
        ap (λ (k : ℕ). with_persisted cache (partly k (copied line cache.cached cache.persisted) cache.persisted)) same

    -- after so many of a line's cells, the persisted contents are those after the whole line up to there
    evict_cells_of-partly : (count : ℕ) → line < line_count → count ≤ 8 →
        evict_cells_of cache line count ≡
        with_persisted cache (partly (line * 8 + count) (copied line cache.cached cache.persisted) cache.persisted)
    unfolding evict_cells_of evict_cell_of
    evict_cells_of-partly zero within most =
        ap (with_persisted cache) (copied-starts line cache.cached cache.persisted as_long) ∙
        up_to (line * 8) (line * 8 + 0) (omega arith)
    evict_cells_of-partly (suc count) within most =
        ap (λ (c : Cache). evict_cell_of c (line * 8 + count)) (evict_cells_of-partly count within (omega arith)) ∙
        ap (with_persisted cache)
        (copied-turn line cache.cached cache.persisted as_long (line * 8 + count) (omega arith) (omega arith)
        (omega (arith, sized.persisted-long))) ∙
        up_to (line * 8 + count + 1) (line * 8 + suc count) (omega arith)

    -- evicting a line is evicting its eight cells in order
    pub evict_of-cells : line < line_count → evict_of cache line ≡ evict_cells_of cache line 8
    unfolding evict_of
    evict_of-cells within =
        sym (evict_cells_of-partly 8 within (omega arith) ∙
        ap (with_persisted cache) (copied-done line cache.cached cache.persisted as_long (line * 8 + 8) (omega arith)))

-- ---- the persisted cells, written to a part of an image
module _ (cache : Cache) (part : List ℕ) where
  pub persisted_into-short : length part < cell_count → persisted_into cache part ≡ part
  unfolding persisted_into
  persisted_into-short short = rw (lt-ltb (length part) cell_count short)

  pub persisted_into-long : cell_count ≤ length part → persisted_into cache part ≡ cache.persisted ++ drop cell_count part
  unfolding persisted_into
  persisted_into-long fits = rw (le-ltb (length part) cell_count fits)
