-- Laws of what is printed: the lines as their pieces make them.
use Prim.Native.Nat.{ℕ, ◌+◌, ◌*◌, ◌≤◌, ◌<◌}
use mathlib.Core.Path.{◌≡◌, refl, sym, ◌∙◌, ap, ap₂}
use mathlib.Core.List.{List, [], ◌++◌, append_assoc, append-nil}
use native.Mathlib.Numerals.{add-one}
use native.Mathlib.Omega.{arith}
use borrow.Author.Tests.{eq-eqb, ne_eqb}
use denote.Ref.{Bor}
use lib.ListN.{replicate, length, get_or, take, drop, length-append, take-append-drop, drop_of_length-le}
use lib.Seq.{length-take-le, take-length}
use Rattle.number.specs.Decimal.{decimal_text}
use Rattle.names.specs.Text.{ascii}
use Rattle.buffer.specs.Buffers.{written, place_after}
use Rattle.print.specs.Printed.{fields_text, cell_text, cells_text}
use Rattle.buffer.proofs.BufferLaws.{Wrote, wrote_more, wrote_long, wrote_front, pasted}
use Rattle.buffer.proofs.DecimalLaws.{decimal-most}
use Rattle.std.specs.List.{All}
use Rattle.std.proofs.lemmas.List.{drop_more}
use Rattle.std.proofs.lemmas.List.Elements.{All-get_or}

-- so many fields are in the line, and those that are left make up the whole
pub record FieldsWrote (fields : List (Bor (List ℕ) × ℕ)) (line : List ℕ) (end i : ℕ) : Type 0 where
  pub done : List ℕ
  pub wrote : Wrote (replicate 88 0) line end done
  pub small : length done ≤ 29 * i
  pub left : done ++ fields_text (drop i fields) ≡ fields_text fields

module _ {fields : List (Bor (List ℕ) × ℕ)} {line : List ℕ} {end i : ℕ} (so_far : FieldsWrote fields line end i) (few : length fields ≤ 3) where
  -- a label of at most 9 bytes and a number of at most 20 digits are written after the fields before them
  pub fields_on : i < length fields → All (λ field. length field.0.now ≤ 9) fields → (none : Bor (List ℕ) × ℕ)
      → {end' : ℕ} {line' : List ℕ}
      → end' ≡ place_after line end (get_or fields i none).0.now → line' ≡ written line end (get_or fields i none).0.now
      → {end'' : ℕ} {line'' : List ℕ}
      → end'' ≡ place_after line' end' (decimal_text (get_or fields i none).1)
      → line'' ≡ written line' end' (decimal_text (get_or fields i none).1)
      → FieldsWrote fields line'' end'' (i + 1)
  unfolding fields_text
  fields_on within short none at is at' is' =
      let field : Bor (List ℕ) × ℕ = get_or fields i none in
      let label = field.0.now in
      let number = decimal_text field.1 in
      let rest = fields_text (drop (i + 1) fields) in
      let label_short : length label ≤ 9 = All-get_or (λ (each : Bor (List ℕ) × ℕ). length each.0.now ≤ 9) fields i none within short in
      let number_short = decimal-most field.1 in
      let next : label ++ number ++ rest ≡ fields_text (drop i fields) = ap fields_text (sym (drop_more fields i none within)) in
      let labelled = length-append so_far.done label in
      let made = wrote_more label so_far.wrote (omega (arith, so_far.small)) at is in
      record {
        done = (so_far.done ++ label) ++ number;
        wrote = wrote_more number made (omega (arith, so_far.small)) at' is';
        small = omega (arith, so_far.small, length-append (so_far.done ++ label) number);
        left = simp append_assoc (simp append_assoc at (ap (λ (tail : List ℕ). so_far.done ++ tail) next ∙ so_far.left));
      }

  -- after the last field a newline ends the line
  pub fields_end : length fields ≤ i → i ≤ length fields → {end' : ℕ} {line' : List ℕ}
      → end' ≡ place_after line end (ascii "\n") → line' ≡ written line end (ascii "\n")
      → Wrote (replicate 88 0) line' end' (fields_text fields)
  unfolding fields_text ascii
  fields_end past most at is =
      let none_left : ascii "\n" ≡ fields_text (drop i fields) = ap fields_text (sym (drop_of_length-le fields past)) in
      let whole : so_far.done ++ ascii "\n" ≡ fields_text fields =
      ap (λ (tail : List ℕ). so_far.done ++ tail) none_left ∙ so_far.left in
      rw (← whole) (wrote_more (ascii "\n") so_far.wrote (omega (arith, so_far.small)) at is)

module _ {old line : List ℕ} {end : ℕ} {text : List ℕ} (made : Wrote old line end text) where
  -- a line that is made in an array of its own ends within it
  pub made-within : end ≤ length line
  made-within = omega (arith, made.end, made.fits, wrote_long made)

  -- to write what such a line holds up to its end is to write its text
  pub made-written : (buffer : List ℕ) (place : ℕ) {buffer' : List ℕ} {place' : ℕ}
      → (place' ≡ place_after buffer place (take end line)) × (buffer' ≡ written buffer place (take end line))
      → (place' ≡ place_after buffer place text) × (buffer' ≡ written buffer place text)
  made-written buffer place put =
      (put.0 ∙ ap (place_after buffer place) (wrote_front made), put.1 ∙ ap (written buffer place) (wrote_front made))

module _ (cells : List ℕ) (i : ℕ) where
  -- a cell that isn't 0 has its line before those of the cells after it
  pub cells-on : i < length cells → (get_or cells i 0 ≡ 0 → ⊥) →
      cells_text i (drop i cells) ≡ cell_text i (get_or cells i 0) ++ cells_text (i + 1) (drop (i + 1) cells)
  unfolding cells_text
  cells-on within some = rw (drop_more cells i 0 within, ne_eqb (get_or cells i 0) 0 some, add-one)

  -- a cell that is 0 has no line before those of the cells after it
  pub cells-skip : i < length cells → get_or cells i 0 ≡ 0 → cells_text i (drop i cells) ≡ cells_text (i + 1) (drop (i + 1) cells)
  unfolding cells_text
  cells-skip within none = rw (drop_more cells i 0 within, eq-eqb (get_or cells i 0) 0 none, add-one)

  pub cells-end : length cells ≤ i → cells_text i (drop i cells) ≡ []
  unfolding cells_text
  cells-end past = rw (drop_of_length-le cells past)

-- the lines of so many cells are in the buffer from a place on, and those that are left make up the whole
pub record CellsWrote (old : List ℕ) (start : ℕ) (cells buffer : List ℕ) (place i : ℕ) : Type 0 where
  pub done : List ℕ
  pub wrote : Wrote old buffer place (take start old ++ done)
  pub left : done ++ cells_text i (drop i cells) ≡ cells_text 0 cells

module _ (old : List ℕ) (start : ℕ) (cells : List ℕ) (fits : start + length (cells_text 0 cells) ≤ length old) where
  before-cells : length (take start old) ≡ start
  before-cells = length-take-le start old (omega arith)

  pub cells-start : CellsWrote old start cells old start 0
  cells-start = record {
    done = [];
    wrote = record {
      end = sym (ap length (append-nil (take start old)) ∙ before-cells);
      fits = omega (arith, ap length (append-nil (take start old)), before-cells);
      held = rw (append-nil (take start old), before-cells) (sym (take-append-drop start old));
    };
    left = refl;
  }

  module _ {buffer : List ℕ} {place : ℕ} (i : ℕ) (within : i < length cells) (so_far : CellsWrote old start cells buffer place i) where
    pub cells_same : get_or cells i 0 ≡ 0 → CellsWrote old start cells buffer place (i + 1)
    cells_same none = record {
      done = so_far.done;
      wrote = so_far.wrote;
      left = ap (λ (rest : List ℕ). so_far.done ++ rest) (sym (cells-skip cells i within none)) ∙ so_far.left;
    }

    pub cells-more : (get_or cells i 0 ≡ 0 → ⊥) → {place' : ℕ} {buffer' : List ℕ}
        → place' ≡ place_after buffer place (cell_text i (get_or cells i 0)) → buffer' ≡ written buffer place (cell_text i (get_or cells i 0))
        → CellsWrote old start cells buffer' place' (i + 1)
    cells-more some at is =
        let text = cell_text i (get_or cells i 0) in
        let rest = cells_text (i + 1) (drop (i + 1) cells) in
        let whole : (so_far.done ++ text) ++ rest ≡ cells_text 0 cells =
        append_assoc so_far.done text rest ∙
        ap (λ (tail : List ℕ). so_far.done ++ tail) (sym (cells-on cells i within some)) ∙ so_far.left in
        let room : length (take start old ++ so_far.done) + length text ≤ length old =
        omega (
          arith,
          ap length whole,
          length-append (so_far.done ++ text) rest,
          length-append so_far.done text,
          length-append (take start old) so_far.done,
          before-cells,
        ) in
        record {
          done = so_far.done ++ text;
          wrote = rw (← append_assoc (take start old) so_far.done text) (wrote_more text so_far.wrote room at is);
          left = whole;
        }

  -- every cell's line is in the buffer
  pub cells-done : {buffer : List ℕ} {place : ℕ} (i : ℕ) → length cells ≤ i → CellsWrote old start cells buffer place i
      → (place ≡ start + length (cells_text 0 cells)) × (buffer ≡ written old start (cells_text 0 cells))
  cells-done i past all =
      let whole : all.done ≡ cells_text 0 cells =
      sym (append-nil all.done) ∙ ap (λ (rest : List ℕ). all.done ++ rest) (sym (cells-end cells i past)) ∙ all.left in
      let long : length (take start old ++ all.done) ≡ start + length (cells_text 0 cells) =
      omega (arith, ap length whole, length-append (take start old) all.done, before-cells) in (
        all.wrote.end ∙ long,
        all.wrote.held
            ∙ ap₂ (λ (text : List ℕ) (end : ℕ). take start old ++ text ++ drop end old) whole long
            ∙ ap (λ (text : List ℕ). take start old ++ text ++ drop (start + length (cells_text 0 cells)) old)
            (sym (take-length (cells_text 0 cells)))
            ∙ sym (pasted old start (cells_text 0 cells) fits),
      )

  pub cells-long : {buffer : List ℕ} {place : ℕ} {i : ℕ} → CellsWrote old start cells buffer place i → length buffer ≡ length old
  cells-long so_far = wrote_long so_far.wrote
