-- How a fence comes to what it leaves: it walks the lines, and before it comes to a line it has done all that lies before that line.
use Prim.Native.Nat.{ℕ, ◌+◌, ◌*◌, ◌/◌, ◌≤◌, ◌<◌}
use native.Mathlib.Omega.{arith}
use mathlib.Core.Path.{◌≡◌, refl, sym, ap, ◌∙◌}
use mathlib.Core.Bool.{Bool, true, false, cond}
use mathlib.Core.List.{List}
use lib.ListN.{length, get_or, set}
use lib.Dec.{eqb}
use borrow.Author.Tests.{le-ltb, eq-eqb, ne_eqb}
use Rattle.sizes.specs.Sizes.{thread_count}
use Rattle.answer.proofs.ListLaws.{cond_same, get_d-clear_from, partly, length-partly, get_d-partly, partly-start, partly-write, partly-keep}
use Rattle.answer.proofs.ListLaws.{partly-done, partly-all}
use Rattle.cache.specs.Cache.{cell_count, line_count, line_of, pending_place, is_pending, fence_of}
use Rattle.cache.specs.declared.Cache.{Cache}
use Rattle.cache.proofs.CacheLaws.{Sized, fence_of-sized, fence_of-persisted, fence_of-durable}
use Rattle.cache.proofs.Lines.{walk_turn, walk-skip, copied, copied-long, copied-inside, copied-outside, marked, marked-long}
use Rattle.cache.proofs.Lines.{marked-inside, marked-outside}

-- what the fence leaves is as long as what was there
module _ (cache : Cache) (sized : Sized cache) (thread : ℕ) where
  persisted-long : length (fence_of cache thread).persisted ≡ length cache.persisted
  persisted-long = (fence_of-sized cache sized thread).persisted-long ∙ sym sized.persisted-long

  durable-long : length (fence_of cache thread).durable ≡ length cache.durable
  durable-long = (fence_of-sized cache sized thread).durable-long ∙ sym sized.durable-long

  pending-long : length (fence_of cache thread).pending ≡ length cache.pending
  pending-long = (fence_of-sized cache sized thread).pending-long ∙ sym sized.pending-long

-- the pending flush at any place
pending_at : (cache : Cache) (thread place : ℕ) →
    get_or (fence_of cache thread).pending place false ≡ cond (eqb (place / line_count) thread) false (get_or cache.pending place false)
unfolding fence_of
pending_at cache thread place = get_d-clear_from (λ k. eqb (k / line_count) thread) cache.pending place false

-- the three lists before the thread's fence comes to this line
pub record FenceAt (cache : Cache) (thread line : ℕ) (persisted : List ℕ) (durable pending : List Bool) : Type 0 where
  pub sized : Sized cache
  pub below : thread < thread_count
  pub within : line ≤ line_count
  pub persisted-is : persisted ≡ partly (line * 8) (fence_of cache thread).persisted cache.persisted
  pub durable-is : durable ≡ partly (line * 8) (fence_of cache thread).durable cache.durable
  pub pending-is : pending ≡ partly (pending_place thread line) (fence_of cache thread).pending cache.pending

pub fence_starts : {cache : Cache} {thread : ℕ} → Sized cache → thread < thread_count →
    FenceAt cache thread 0 cache.persisted cache.durable cache.pending
fence_starts {cache} {thread} sized below = record {
  sized = sized;
  below = below;
  within = omega arith;
  persisted-is = refl;
  durable-is = refl;
  pending-is =
      partly-start (fence_of cache thread).pending cache.pending false (pending-long cache sized thread) (pending_place thread 0)
      (λ place less. pending_at cache thread place ∙ rw (ne_eqb (place / line_count) thread (omega arith)));
}

module _ {cache : Cache} {thread line : ℕ} {persisted : List ℕ} {durable pending : List Bool}
    (at : FenceAt cache thread line persisted durable pending) where
  -- equal lists are at the same line
  pub fence-same : {persisted' : List ℕ} {durable' pending' : List Bool} → persisted' ≡ persisted → durable' ≡ durable →
      pending' ≡ pending → FenceAt cache thread line persisted' durable' pending'
  fence-same same_persisted same_durable same_pending = record {
    sized = at.sized;
    below = at.below;
    within = at.within;
    persisted-is = same_persisted ∙ at.persisted-is;
    durable-is = same_durable ∙ at.durable-is;
    pending-is = same_pending ∙ at.pending-is;
  }

  -- the walk over the lines keeps the lists' lengths
  pub fence-persisted-long : length persisted ≡ cell_count
  fence-persisted-long =
      ap length at.persisted-is ∙
      length-partly (fence_of cache thread).persisted cache.persisted 0 (persisted-long cache at.sized thread) (line * 8) ∙
      at.sized.persisted-long

  pub fence-durable-long : length durable ≡ cell_count
  fence-durable-long =
      ap length at.durable-is ∙
      length-partly (fence_of cache thread).durable cache.durable false (durable-long cache at.sized thread) (line * 8) ∙
      at.sized.durable-long

  -- the walk finds the line's pending flush as it was
  pub fence-reads : get_or pending (pending_place thread line) false ≡ is_pending cache thread line
  fence-reads =
      rw at.pending-is
      (get_d-partly (fence_of cache thread).pending cache.pending false (pending-long cache at.sized thread)
      (pending_place thread line) (pending_place thread line) ∙
      rw (le-ltb (pending_place thread line) (pending_place thread line) (omega arith)))

  -- the cells of the line have the line's pending flush
  of-line : {flush : Bool} → is_pending cache thread line ≡ flush → (cell : ℕ) → line_of cell ≡ line →
      is_pending cache thread (line_of cell) ≡ flush
  of-line is cell same = ap (is_pending cache thread) same ∙ is

  -- a line with a pending flush: its cells are copied and marked, and the flush is dropped
  pub fence-turn : line < line_count → is_pending cache thread line ≡ true →
      FenceAt cache thread (line + 1) (copied line cache.cached persisted) (marked line durable)
      (set pending (pending_place thread line) false)
  fence-turn less flush =
      let sized = at.sized in
      let as_long : length cache.cached ≡ length persisted = sized.cached-long ∙ sym fence-persisted-long in
      let flags_long : length durable ≡ cell_count = fence-durable-long in
      record {
        sized = sized;
        below = at.below;
        within = omega arith;
        persisted-is =
            walk_turn (fence_of cache thread).persisted cache.persisted 0 line (persisted-long cache sized thread)
            persisted at.persisted-is
            (copied line cache.cached persisted)
            (copied-long line cache.cached persisted as_long)
            (λ cell same.
            copied-inside line cache.cached persisted as_long cell same ∙
            sym (fence_of-persisted cache sized thread cell ∙ rw (of-line flush cell same)))
            (copied-outside line cache.cached persisted as_long);
        durable-is =
            walk_turn (fence_of cache thread).durable cache.durable false line (durable-long cache sized thread) durable at.durable-is
            (marked line durable)
            (marked-long line durable)
            (λ cell same.
            marked-inside line durable cell same (omega arith) ∙
            sym (fence_of-durable cache sized thread cell (omega arith) ∙ rw (of-line flush cell same)))
            (marked-outside line durable);
        pending-is =
            rw at.pending-is
            (partly-write (fence_of cache thread).pending cache.pending false (pending-long cache sized thread)
            (pending_place thread line) false (omega (arith, sized.pending-long))
            (pending_at cache thread (pending_place thread line) ∙ rw (eq-eqb (pending_place thread line / line_count) thread (omega arith))) ∙
            next_place);
      }
    where
      next_place : partly (pending_place thread line + 1) (fence_of cache thread).pending cache.pending ≡
          partly (pending_place thread (line + 1)) (fence_of cache thread).pending cache.pending
      next_place =
          ap (λ (k : ℕ). partly k (fence_of cache thread).pending cache.pending) {x = pending_place thread line + 1}
          {y = pending_place thread (line + 1)} (omega arith)

  -- a line without a pending flush: nothing changes
  pub fence-skip : line < line_count → is_pending cache thread line ≡ false → FenceAt cache thread (line + 1) persisted durable pending
  fence-skip less none =
      let sized = at.sized in
      record {
        sized = sized;
        below = at.below;
        within = omega arith;
        persisted-is =
            walk-skip (fence_of cache thread).persisted cache.persisted 0 line (persisted-long cache sized thread)
            persisted at.persisted-is
            (λ cell same. fence_of-persisted cache sized thread cell ∙ rw (of-line none cell same));
        durable-is =
            walk-skip (fence_of cache thread).durable cache.durable false line (durable-long cache sized thread) durable at.durable-is
            (λ cell same. fence_of-durable cache sized thread cell (omega arith) ∙ rw (of-line none cell same));
        pending-is =
            at.pending-is ∙
            partly-keep (fence_of cache thread).pending cache.pending false (pending-long cache sized thread)
            (pending_place thread line) (pending_place thread (line + 1)) (omega arith)
            (λ place past before.
            let here : place ≡ pending_place thread line = omega arith in
            let was : get_or cache.pending place false ≡ false = ap (λ (k : ℕ). get_or cache.pending k false) here ∙ none in
            pending_at cache thread place ∙ ap (cond (eqb (place / line_count) thread) false) was ∙
            cond_same (eqb (place / line_count) thread) false ∙ sym was);
      }

  -- past the last line the walk has what the fence leaves
  pub fence-done : line_count ≤ line →
      record { cached = cache.cached; persisted = persisted; durable = durable; pending = pending } ≡ fence_of cache thread
  unfolding fence_of
  fence-done past =
      let sized = at.sized in
      let below = at.below in
      λ i. record {
        cached = cache.cached;
        persisted =
            (at.persisted-is ∙
            partly-all (fence_of cache thread).persisted cache.persisted 0 (persisted-long cache sized thread)
            (line * 8) (omega (arith, sized.persisted-long))) i;
        durable =
            (at.durable-is ∙
            partly-all (fence_of cache thread).durable cache.durable false (durable-long cache sized thread)
            (line * 8) (omega (arith, sized.durable-long))) i;
        pending =
            (at.pending-is ∙
            partly-done (fence_of cache thread).pending cache.pending false (pending-long cache sized thread) (pending_place thread line)
            (λ place later. pending_at cache thread place ∙ rw (ne_eqb (place / line_count) thread (omega arith)))) i;
      }
