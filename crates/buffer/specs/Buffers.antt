-- Text in a lent buffer: what the buffer then holds, and the place after the text. A text that does not fit is not written.
use Rattle.std.specs.Prelude.{ℕ, ◌+◌, cond, List, ◌++◌, length, take, drop, leb}

-- the buffer with the text written at a place
unfoldable pub written : List ℕ → ℕ → List ℕ → List ℕ
written buffer place text =
    cond (leb (place + length text) (length buffer)) (take place buffer ++ text ++ drop (place + length text) buffer) buffer

-- the place after the text
unfoldable pub place_after : List ℕ → ℕ → List ℕ → ℕ
place_after buffer place text = cond (leb (place + length text) (length buffer)) (place + length text) place
