-- `image::HeadedImage::present` meets its contract.
use mathlib.Core.Path.{ap, ◌∙◌}
use Rattle.ring.specs.declared.Lsn.{Lsn}
use Rattle.image.specs.Stored.{present_in}
use Rattle.image.proofs.LogsRead.{log-read}
use Rattle.image.proofs.HeadedImage.present.Goals as goal

pub returns : goal.returns
returns c =
    let a = c.args in
    c.present.ensures
    ∙ ap present_in
    (log-read a.self.words.now a.thread c.requires c.stretch-stretch.ensures (ap (λ (head : Lsn). head.0) c.head.ensures))
