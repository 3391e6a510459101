-- The invariant of `writer::write_stretch`'s loop: the words before `index` are those of the persisted slots, the others are as they were,
-- and the first turn has found how many slots there are.
use Prim.Native.Nat.{◌<◌}
use mathlib.Core.Path.{◌≡◌}
use mathlib.Core.List.{◌++◌}
use lib.ListN.{length, take, drop}
use Rattle.entry.specs.Words.{words_of}
use Rattle.writer.proofs.write_stretch.Given as goal

abbrev pub invariant-loop-index : goal.invariant-loop-index
invariant-loop-index l = let slots = l.log.persisted in
    (l.word-items ≡ take l.index (words_of slots) ++ drop l.index l.initial.word-items) × (0 < l.index → length slots ≡ 64)
