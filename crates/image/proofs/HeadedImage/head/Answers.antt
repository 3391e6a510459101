-- `image::HeadedImage::head` meets its contract: a head that test 22 let pass fits an LSN.
use mathlib.Core.Path.{ap}
use native.Mathlib.Omega.{arith}
use Rattle.ring.specs.Ring.{lsn}
use Rattle.image.specs.Reading.{log_in}
use Rattle.image.proofs.LogsRead.{head-word}
use Rattle.image.proofs.GoodEntries.{good_head}
use Rattle.image.proofs.HeadedImage.head.Goals as goal

pub overflow_cast-result : goal.overflow_cast-result
overflow_cast-result c =
    let a = c.args in
    let head = good_head (log_in a.self.words.now a.thread) (a.self.heads a.thread c.requires) in
    omega (arith, head-word a.self.words.now a.thread c.requires, head)

pub returns : goal.returns
returns c = let a = c.args in ap lsn (head-word a.self.words.now a.thread c.requires)
