-- `cache::Cache::persist_into` meets its contract: the part's first words are as many as the cells.
use native.Mathlib.Omega.{arith}
use mathlib.Core.Path.{◌≡◌}
use lib.ListN.{length, length-take}
use borrow.Author.Rules.{rules}
use Rattle.cache.specs.Cache.{cell_count}
use Rattle.cache.proofs.Cache.persist_into.Goals as goal

pub copy_from_slice-requires : goal.copy_from_slice-requires
copy_from_slice-requires c =
    let all : length c.args.self.persisted ≡ cell_count = search rules in
    simp length-take (omega arith)
