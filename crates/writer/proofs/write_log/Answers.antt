-- `writer::write_log` meets its contract: the part of the image that is lent comes back as `write_stretch` says.
use mathlib.Core.Path.{ap, ◌∙◌}
use mathlib.Core.List.{List, ◌++◌}
use Prim.Native.Nat.{ℕ, ◌+◌}
use lib.ListN.{set, take}
use Rattle.reader.specs.Stretch.{heads_at, stretch_at}
use Rattle.writer.specs.Written.{written_of, log_into}
use Rattle.writer.proofs.Parts.{part_back, part_lent}
use Rattle.writer.proofs.write_log.Goals as goal

pub returns : goal.returns
unfolding log_into
returns c = let a = c.args in
    let image = set a.image.now (heads_at + a.thread) a.log.now.head.0 in
    let at = stretch_at a.thread in
    part_back image c.write_stretch.new.part at ∙
    ap (λ (part : List ℕ). take at image ++ part) (c.write_stretch.ensures ∙ ap (written_of a.log.now) (part_lent image at))
