-- Takes one after the other, of the entries that a list names: each takes a thread's last remaining entry, where it may be taken. Document
-- 01's order is one way of taking, and the cells at the end are those that the list undoes to.
use Prim.Native.Nat.{ℕ, zero, suc, ◌+◌, ◌<◌}
use mathlib.Core.Path.{◌≡◌, refl}
use mathlib.Core.Bool.{true}
use mathlib.Core.List.{List, [], ◌∷◌}
use Rattle.std.specs.Prelude.{Option, None, Some}
use native.Mathlib.Omega.{arith}
use Rattle.sizes.specs.Sizes.{thread_count}
use Rattle.image.specs.Stored.{StoredLog, stored_log}
use Rattle.undoing.specs.Undo.{Undo, may_take, lowest_from, take_last, take_from, take_next, take_many}
use Rattle.undoing.proofs.UndoLaws.{lowest-may}
use Rattle.orders.specs.Orders.{Name, name, undone_by}
use Rattle.orders.proofs.UndoSteps.{last_of}

-- the name of a thread's entry, by its index
abbrev pub name_of : List StoredLog → ℕ → ℕ → Name
name_of logs thread index = name thread ((stored_log logs thread).head + index)

-- one undo leads to another by lawful takes of the entries that a list names
pub data Takes (logs : List StoredLog) : Undo → List Name → Undo → Type 0 where
  ended : {undo : Undo} → Takes logs undo [] undo
  taking : {undo end : Undo} {order : List Name} (thread : ℕ) → thread < thread_count → may_take logs undo.left thread ≡ true →
      Takes logs (take_last logs undo thread) order end →
      Takes logs undo (name_of logs thread (last_of undo.left thread) ∷ order) end

-- so many takes in document 01's order are lawful ones, of some entries
pub many_takes : (logs : List StoredLog) (count : ℕ) (undo : Undo) → (order : List Name) × Takes logs undo order (take_many count logs undo)
unfolding take_many take_next
many_takes logs zero undo = ([], Takes.ended)
many_takes logs (suc count) undo =
    by-lowest (lowest_from logs undo.left 0 thread_count) refl (many_takes logs count)
  where
    by-lowest : (found : Option ℕ) → lowest_from logs undo.left 0 thread_count ≡ found →
        ((after : Undo) → (order : List Name) × Takes logs after order (take_many count logs after)) →
        (order : List Name) × Takes logs undo order (take_many count logs (take_from logs undo found))
    by-lowest None none_found later = later undo
    by-lowest (Some thread) is_found later =
        let found = lowest-may logs undo.left 0 thread_count thread is_found in
        let rest = later (take_last logs undo thread) in (
          name_of logs thread (last_of undo.left thread) ∷ rest.0,
          Takes.taking thread (omega (arith, found.0)) found.1 rest.1,
        )

-- takes end in the cells that the list undoes to
pub takes_cells : {logs : List StoredLog} {undo end : Undo} {order : List Name} → Takes logs undo order end →
    end.cells ≡ undone_by logs undo.cells order
unfolding undone_by take_last
takes_cells Takes.ended = refl
takes_cells (Takes.taking thread in_range may rest) = takes_cells rest
