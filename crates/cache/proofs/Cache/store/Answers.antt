-- `cache::Cache::store` meets its contract.
use native.Mathlib.Omega.{arith}
use mathlib.Core.Path.{sym}
use borrow.Author.Rules.{rules}
use Rattle.cache.proofs.CacheLaws.{store_of-out}
use Rattle.cache.proofs.Cache.store.Goals as goal

pub returns-else-cell-lt-CELLS : goal.returns-else-cell-lt-CELLS
returns-else-cell-lt-CELLS c = let a = c.args in
    sym (store_of-out a.self (search rules) a.cell a.value (omega arith))
