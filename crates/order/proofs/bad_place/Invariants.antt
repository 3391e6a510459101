-- `order::bad_place` meets its contract. The loop's invariant: the whole list is marked as what is left of it.
use mathlib.Core.Path.{◌≡◌}
use Rattle.std.specs.Iterator.Adapters.{enumerate_source, enumerate_count}
use Rattle.std.specs.Slice.Iter.{chunks_exact_rest, chunks_exact_size}
use Rattle.image.specs.Stored.{stored_logs}
use Rattle.order.proofs.Marked.{Come}
use Rattle.order.proofs.bad_place.Given as goal

abbrev pub invariant-loop-place : goal.invariant-loop-place
invariant-loop-place l =
    let chunks = enumerate_source l.place-iterator in
    record {
      can_next : (goal.iterator-loop-place).can_next l.place-iterator;
      is_finite : (goal.iterator-loop-place).is_finite l.place-iterator;
      size : chunks_exact_size chunks ≡ 2;
      come : Come (stored_logs l.image.words.now) l.fn.present l.pairs l.left (enumerate_count l.place-iterator) (chunks_exact_rest chunks);
    }
