-- `image::HeadedImage::entry` meets its contract.
use mathlib.Core.Path.{ap, ◌∙◌}
use Rattle.ring.specs.declared.Lsn.{Lsn}
use Rattle.image.specs.Stored.{StoredLog}
use Rattle.image.specs.Reading.{entry_in}
use Rattle.image.proofs.LogsRead.{log-read}
use Rattle.image.proofs.HeadedImage.entry.Goals as goal

pub returns : goal.returns
returns c =
    let a = c.args in
    c.read_entry.ensures
    ∙ ap (λ (log : StoredLog). entry_in log a.index)
    (log-read a.self.words.now a.thread c.requires c.stretch-stretch.ensures (ap (λ (head : Lsn). head.0) c.head.ensures))
