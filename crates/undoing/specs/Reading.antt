-- What the code hands on, in the words of the undo order.
use Rattle.undoing.specs.Undo.{Undo}
use Rattle.undoing.specs.declared.Undone.{Undone}

-- how many entries each thread has left, and the cells so far
abbrev pub undo_of : Undone → Undo
undo_of undone = record { left = undone.left; cells = undone.cells }
