-- A text put on a page: a lent buffer, and the place in it where the next text goes.
use Rattle.std.specs.Prelude.{ℕ, List, ◌≡◌}
use Rattle.buffer.specs.declared.Page.{Page}
use Rattle.buffer.specs.Buffers.{written, place_after}

-- the page keeps the caller's buffer, in which the text is written, where it fits
pub record Put (old new : Page) (text : List ℕ) : Type 0 where
  pub same_reference : new.buffer.ghost_name ≡ old.buffer.ghost_name
  pub place_after : new.place ≡ place_after old.buffer.now old.place text
  pub buffer_after : new.buffer.now ≡ written old.buffer.now old.place text
