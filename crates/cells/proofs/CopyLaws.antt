-- A copy of cells over a buffer of just as many words.
use Prim.Native.Nat.{ℕ, ◌≤◌}
use mathlib.Core.Path.{◌≡◌}
use mathlib.Core.List.{List, append-nil}
use native.Mathlib.Omega.{arith}
use lib.ListN.{length, take}
use borrow.Author.Tests.{le-ltb}
use Rattle.std.proofs.lemmas.List.{drop_all}
use Rattle.cells.specs.Cells.{copied_words, copied_of}

-- a buffer of 128 words has just the copied ones
pub copied-whole : (from to : List ℕ) → copied_words ≤ length from → length to ≡ copied_words → copied_of from to ≡ take copied_words from
unfolding copied_of
copied-whole from to enough whole =
    rw (le-ltb (length from) copied_words enough, le-ltb (length to) copied_words (omega arith), drop_all copied_words to (omega arith))
    (append-nil (take copied_words from))
