-- `writeback::fence` meets its contract: each turn of the loop is a turn of the walk over the lines.
use Prim.Native.Nat.{ℕ}
use native.Mathlib.Omega.{arith}
use mathlib.Core.Path.{refl, sym, ap, ◌∙◌}
use mathlib.Core.List.{List}
use borrow.Author.Rules.{rules}
use Rattle.cache.specs.declared.Cache.{Cache}
use Rattle.cache.proofs.CacheLaws.{fence_of-out}
use Rattle.cache.proofs.Lines.{copied}
use Rattle.writeback.proofs.Fences.{fence-same, fence_starts, fence-reads, fence-persisted-long, fence-durable-long}
use Rattle.writeback.proofs.Fences.{fence-turn, fence-skip, fence-done}
use Rattle.writeback.proofs.fence.Goals as goal
use Rattle.writeback.proofs.fence.Goals.{else-cache-place, then-cache-place}

pub loop-line-init : goal.loop-line-init
loop-line-init c = record { walk = fence_starts (search rules) (omega arith); cached-is = refl }

pub copy_line-requires : goal.copy_line-requires
copy_line-requires c = (search rules, search rules, fence-persisted-long c.loop-line.invariant.walk)

pub set_line-requires : goal.set_line-requires
set_line-requires c = (search rules, fence-durable-long c.loop-line.invariant.walk)

pub loop-line-preserved : goal.loop-line-preserved
loop-line-preserved c = let l = c.loop-line in
    let at = l.invariant.walk in
    elim c.if-cache-place.branch [
      | then-cache-place w ↦ record {
        walk = fence-same
            (fence-turn at (omega arith) (sym (fence-reads at) ∙ w.if-cache-place.true))
            (ap (λ (cache : Cache). cache.persisted) w.cache-is ∙ w.copy_line.ensures ∙
            ap (λ (cached : List ℕ). copied l.line cached l.cache.persisted) l.invariant.cached-is)
            (ap (λ (cache : Cache). cache.durable) w.cache-is ∙ w.set_line.ensures)
            (ap (λ (cache : Cache). cache.pending) w.cache-is);
        cached-is = ap (λ (cache : Cache). cache.cached) w.cache-is ∙ l.invariant.cached-is;
      }
      | else-cache-place w ↦ record {
        walk = fence-same
            (fence-skip at (omega arith) (sym (fence-reads at) ∙ w.if-cache-place.false))
            (ap (λ (cache : Cache). cache.persisted) w.cache-is)
            (ap (λ (cache : Cache). cache.durable) w.cache-is)
            (ap (λ (cache : Cache). cache.pending) w.cache-is);
        cached-is = ap (λ (cache : Cache). cache.cached) w.cache-is ∙ l.invariant.cached-is;
      }
    ]

pub returns-after-loop-line : goal.returns-after-loop-line
returns-after-loop-line c = let l = c.loop-line in
    ap (λ cached. record { cached = cached; persisted = l.cache.persisted; durable = l.cache.durable; pending = l.cache.pending })
    l.invariant.cached-is
    ∙ fence-done l.invariant.walk (omega arith)

pub returns-else-thread-lt-THREADS : goal.returns-else-thread-lt-THREADS
returns-else-thread-lt-THREADS c = sym (fence_of-out c.args.cache (search rules) c.args.thread (omega arith))
