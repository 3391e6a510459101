-- The cells: their cached and persisted contents, their durability, and the flushes that a fence has yet to complete.
-- A cell, line or thread that is out of range changes nothing.
use Rattle.std.specs.Prelude.{ℕ, ◌+◌, ◌*◌, ◌/◌, ◌%◌, Bool, true, false, cond, ◌&&◌, List, ◌++◌, length, get_or, set, drop, replicate, eqb, ltb}
use Rattle.sizes.specs.Sizes.{thread_count}
use Rattle.answer.specs.Lists.{count_below, set_from, mix_from}
use Rattle.cache.specs.declared.Cache.{Cache}

-- 128 cells, in 16 lines, under 4 threads
abbrev pub cell_count : ℕ
cell_count = 128

abbrev pub line_count : ℕ
line_count = 16

-- "cell c is in line c / 8, rounded down"
abbrev pub line_of : ℕ → ℕ
line_of cell = cell / 8

-- document 01's seen content
abbrev pub cached_at : Cache → ℕ → ℕ
cached_at cache cell = get_or cache.cached cell 0

-- document 01's kept content
abbrev pub persisted_at : Cache → ℕ → ℕ
persisted_at cache cell = get_or cache.persisted cell 0

-- the cell is firm, in document 01's words
abbrev pub is_durable : Cache → ℕ → Bool
is_durable cache cell = get_or cache.durable cell false

-- the place of a thread's pending flush of a line
abbrev pub pending_place : ℕ → ℕ → ℕ
pending_place thread line = thread * line_count + line

-- the thread's mark is on the line, in document 01's words
abbrev pub is_pending : Cache → ℕ → ℕ → Bool
is_pending cache thread line = get_or cache.pending (pending_place thread line) false

-- document 02's "number of lines with this thread's mark", of whatever contents
abbrev pub pending_count : Cache → ℕ → ℕ
pending_count cache thread = count_below line_count (λ line. is_pending cache thread line)

-- "At the start both are the start cell and every cell is firm."
unfoldable pub cache_of : List ℕ → Cache
cache_of words = record {
  cached = words;
  persisted = words;
  durable = replicate cell_count true;
  pending = replicate (thread_count * line_count) false;
}

-- STORE: "sets the seen content. The cell stops being firm. All threads' marks on its line go."
unfoldable pub store_of : Cache → ℕ → ℕ → Cache
store_of cache cell value = record {
  cached = set cache.cached cell value;
  persisted = cache.persisted;
  durable = set cache.durable cell false;
  pending = set_from (λ place. eqb (place % line_count) (line_of cell)) false 0 cache.pending;
}

-- FLUSH: "puts this thread's mark on the line"
unfoldable pub flush_of : Cache → ℕ → ℕ → Cache
flush_of cache thread line =
    cond (ltb thread thread_count && ltb line line_count)
    (record {
      cached = cache.cached;
      persisted = cache.persisted;
      durable = cache.durable;
      pending = set cache.pending (pending_place thread line) true;
    })
    cache

-- FENCE: "each data line with this thread's mark has its seen content kept, its 8 cells are firm, this mark goes"
unfoldable pub fence_of : Cache → ℕ → Cache
fence_of cache thread = record {
  cached = cache.cached;
  persisted = mix_from (λ cell. is_pending cache thread (line_of cell)) 0 cache.cached cache.persisted;
  durable = set_from (λ cell. is_pending cache thread (line_of cell)) true 0 cache.durable;
  pending = set_from (λ place. eqb (place / line_count) thread) false 0 cache.pending;
}

-- the retired step 11, of a line: "seen content becomes kept. Nothing becomes firm." No step does this now; that eight EVICTCELL steps
-- come to the same is a claim of the crate laws
unfoldable pub evict_of : Cache → ℕ → Cache
evict_of cache line = record {
  cached = cache.cached;
  persisted = mix_from (λ cell. eqb (line_of cell) line) 0 cache.cached cache.persisted;
  durable = cache.durable;
  pending = cache.pending;
}

-- EVICTCELL: "its seen content alone becomes kept" (document 02). Nothing becomes firm.
unfoldable pub evict_cell_of : Cache → ℕ → Cache
evict_cell_of cache cell = record {
  cached = cache.cached;
  persisted = set cache.persisted cell (cached_at cache cell);
  durable = cache.durable;
  pending = cache.pending;
}

-- the writer of the persisted cells over a lent part of an image: its first 128 words are the cells, and a part that is too short is
-- as it was
unfoldable pub persisted_into : Cache → List ℕ → List ℕ
persisted_into cache part = cond (ltb (length part) cell_count) part (cache.persisted ++ drop cell_count part)
