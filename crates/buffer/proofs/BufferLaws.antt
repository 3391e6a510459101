-- Laws of text in a lent buffer: where it fits, where not, and one text after another from the front.
use Prim.Native.Nat.{ℕ, ◌+◌, ◌≤◌}
use mathlib.Core.Path.{◌≡◌, refl, sym, ◌∙◌, ap, ap₂}
use mathlib.Core.List.{List, [], ◌++◌}
use native.Mathlib.Omega.{arith}
use borrow.Author.Tests.{le-leb}
use lib.ListN.{length, take, drop, length-append, length-drop}
use lib.Seq.{paste, take-length, take_at, drop_at, drop-drop}
use Rattle.buffer.specs.Buffers.{written, place_after}

module _ (buffer : List ℕ) (place : ℕ) (text : List ℕ) (fits : place + length text ≤ length buffer) where
  pub placed : place_after buffer place text ≡ place + length text
  unfolding place_after
  placed = rw (le-leb (place + length text) (length buffer) fits)

  pub pasted : written buffer place text ≡ paste buffer place text (length text)
  unfolding written
  pasted = rw (le-leb (place + length text) (length buffer) fits, take-length text)

-- a buffer that held this list now begins with a text, and this is the place after it
pub record Wrote (old buffer : List ℕ) (place : ℕ) (text : List ℕ) : Type 0 where
  pub end : place ≡ length text
  pub fits : length text ≤ length old
  pub held : buffer ≡ text ++ drop (length text) old

pub wrote_nothing : (old : List ℕ) → Wrote old old 0 []
wrote_nothing old = record { end = refl; fits = omega arith; held = refl }

pub wrote_long : {old buffer : List ℕ} {place : ℕ} {text : List ℕ} → Wrote old buffer place text → length buffer ≡ length old
wrote_long {old} {buffer} {place} {text} so_far =
    ap length so_far.held ∙ simp (length-append, length-drop) (omega (arith, so_far.fits))

-- one more text, which fits, is written after a text
pub wrote_more : {old buffer : List ℕ} {place : ℕ} {text : List ℕ} (more : List ℕ) → Wrote old buffer place text
    → length text + length more ≤ length old
    → {place' : ℕ} {buffer' : List ℕ} → place' ≡ place_after buffer place more → buffer' ≡ written buffer place more
    → Wrote old buffer' place' (text ++ more)
wrote_more {old} {buffer} {place} {text} more so_far fits at is =
    let long = wrote_long so_far in
    let room : place + length more ≤ length buffer = omega (arith, so_far.end) in
    let front : take place buffer ≡ text =
    ap (take place) so_far.held ∙ take_at text (drop (length text) old) place (sym so_far.end) in
    let back : drop (place + length more) buffer ≡ drop (length (text ++ more)) old =
    sym (drop-drop (length more) place buffer)
    ∙ ap (drop (length more)) (ap (drop place) so_far.held ∙ drop_at text (drop (length text) old) place (sym so_far.end))
    ∙ drop-drop (length more) (length text) old
    ∙ ap (λ (k : ℕ). drop k old) (sym (length-append text more)) in
    record {
      end = at ∙ placed buffer place more room ∙ omega (arith, so_far.end, length-append text more);
      fits = omega (arith, length-append text more);
      held =
          is
          ∙ pasted buffer place more room
          ∙ ap₂ (λ (first last : List ℕ). first ++ take (length more) more ++ last) front back
          ∙ ap (λ (middle : List ℕ). text ++ middle ++ drop (length (text ++ more)) old) (take-length more);
    }

-- the front of the buffer is the text
pub wrote_front : {old buffer : List ℕ} {place : ℕ} {text : List ℕ} → Wrote old buffer place text → take place buffer ≡ text
wrote_front {old} {buffer} {place} {text} all = ap (take place) all.held ∙ take_at text (drop (length text) old) place (sym all.end)

-- a text that fits is written at the front
pub wrote_first : (old : List ℕ) {text : List ℕ} → length text ≤ length old → {place : ℕ} {buffer : List ℕ} →
    place ≡ place_after old 0 text → buffer ≡ written old 0 text → Wrote old buffer place text
wrote_first old {text} fits at is = wrote_more text (wrote_nothing old) (omega arith) at is
