-- The undoing lemma: from logs, present entries and cells that can be undone, every lawful order of taking all entries ends in the same
-- cells, document 01's order is one of them, and recovery of such an image accepts it and gives those cells.
use Rattle.std.specs.Prelude.{Ok}
use Prim.Native.Nat.{ℕ}
use mathlib.Core.Path.{◌≡◌, refl, sym, ◌∙◌}
use mathlib.Core.Bool.{false}
use mathlib.Core.Logic.{⊎_elim}
use mathlib.Core.List.{List}
use native.Mathlib.Omega.{arith}
use lib.ListN.{length}
use lib.Seq.{ext_get_or}
use borrow.Author.Tests.{eq-eqb}
use Rattle.sizes.specs.Sizes.{thread_count}
use Rattle.answer.specs.Lists.{some_below}
use Rattle.answer.specs.Refusals.{unless}
use Rattle.image.specs.Stored.{StoredLog, stored_log, stored_logs}
use Rattle.image.specs.Tests.{is_bad_head, has_bad_entry, image_tests}
use Rattle.undoing.specs.Undo.{Undo, take_many, undo_start, undone}
use Rattle.recovery.specs.Recover.{has_left, recover_tests, recover_of}
use Rattle.orders.specs.Orders.{Name, IsOrderOf, undone_by}
use Rattle.orders.proofs.OrderLaws.{order-takes}
use Rattle.orders.proofs.Takes.{Takes, many_takes, takes_cells}
use Rattle.orders.proofs.UndoEnds.{none_left, all-taken}
use Rattle.orders.proofs.UndoSteps.{thread_below}
use Rattle.atomicity.proofs.Undoable.{Undoable}
use Rattle.atomicity.proofs.UndoKeeps.{StoreLeft, Midway, start-midway, may-midway}

module _ (logs : List StoredLog) (present cells final : List ℕ) (undoable : Undoable logs present cells final) where
  takes-midway : {undo end : Undo} {order : List Name} → Takes logs undo order end → Midway logs present final undo →
      Midway logs present final end
  takes-midway Takes.ended midway = midway
  takes-midway (Takes.taking {undo = undo} thread in_range may rest) midway =
      takes-midway rest (may-midway logs present cells final undoable undo midway thread may)

  -- with no entry left every cell is as wanted
  midway-ends : (end : Undo) → Midway logs present final end → has_left end ≡ false → end.cells ≡ final
  midway-ends end midway ends =
      ext_get_or
      0
      end.cells
      final
      (midway.cells_length ∙ sym undoable.final_length)
      (λ cell below.
      ⊎_elim (λ found. absurd (no_store found)) (λ as_wanted. as_wanted) (midway.done cell (omega (arith, midway.cells_length))))
    where
      no_store : {cell : ℕ} → StoreLeft logs end.left cell → ⊥
      no_store found =
          let in_range = thread_below end.left found.thread found.index midway.partway.threads found.store.is_left in
          omega (arith, found.store.is_left, none_left end ends found.thread in_range)

  -- lawful takes that leave nothing end in the final cells
  takes-end : {order : List Name} (end : Undo) → Takes logs (record { left = present; cells = cells }) order end → has_left end ≡ false →
      end.cells ≡ final
  takes-end end takes ends = midway-ends end (takes-midway takes (start-midway logs present cells final undoable)) ends

  -- every order of all present entries undoes to the final cells
  pub any_order : (order : List Name) → IsOrderOf logs present order → undone_by logs cells order ≡ final
  any_order order is_order =
      let taken = order-takes logs order (record { left = present; cells = cells }) undoable.timed.threads is_order in
      sym (takes_cells taken.1) ∙ takes-end taken.0 taken.1 taken.2

  -- document 01's order takes all present entries, and ends in the final cells
  pub in_order : (has_left (take_many 256 logs (record { left = present; cells = cells })) ≡ false) ×
      ((take_many 256 logs (record { left = present; cells = cells })).cells ≡ final)
  in_order =
      let taken = all-taken logs present undoable.timed cells in
      (taken, takes-end _ (many_takes logs 256 (record { left = present; cells = cells })).1 taken)

-- recovery of an image whose heads and present entries are good, and that can be undone, is accepted and gives the final cells
pub recovers : (image buffer final : List ℕ) → length image ≡ 1156 → length buffer ≡ 128
    → some_below thread_count (λ thread. is_bad_head (stored_log (stored_logs image) thread)) ≡ false
    → some_below thread_count (λ thread. has_bad_entry (stored_log (stored_logs image) thread)) ≡ false
    → Undoable (stored_logs image) (undo_start image).left (undo_start image).cells final
    → ((recover_of image buffer).answer ≡ Ok 0) × ((recover_of image buffer).buffer ≡ final)
unfolding recover_of recover_tests image_tests unless undone
recovers image buffer final image_length buffer_length good_heads good_entries undoable =
    let ends = in_order (stored_logs image) (undo_start image).left (undo_start image).cells final undoable in
    rw (eq-eqb _ _ image_length, eq-eqb _ _ buffer_length, good_heads, good_entries, ends.0) (refl, ends.1)
