-- `prune::prune_answer` meets its contract: the entries of the oldest region are live.
use Rattle.prune.proofs.RegionParts.{live}
use Rattle.prune.proofs.prune_answer.Goals as goal

pub lsn_after-requires : goal.lsn_after-requires
lsn_after-requires c = live c.args.log.now c.args.region c.requires
