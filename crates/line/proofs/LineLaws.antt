-- Laws of the first line of an input, where it is ended and where not.
use Prim.Native.Nat.{ℕ, ◌≤◌, ◌<◌}
use mathlib.Core.Path.{◌≡◌}
use mathlib.Core.List.{List}
use borrow.Author.Tests.{lt-ltb, le-ltb}
use lib.ListN.{length, take}
use Rattle.std.specs.Prelude.{None}
use Rattle.scan.specs.Find.{index_of}
use Rattle.line.specs.Lines.{newline, before, line_of, first_line}

pub first_ended : (input : List ℕ) → index_of newline input < length input → first_line input ≡ line_of (take (index_of newline input) input)
unfolding first_line before
first_ended input ended = rw (lt-ltb (index_of newline input) (length input) ended)

pub first-unended : (input : List ℕ) → length input ≤ index_of newline input → first_line input ≡ None
unfolding first_line
first-unended input past = rw (le-ltb (index_of newline input) (length input) past)
