-- Laws of the lines of an input: the first line and those after it, and how many steps an input has room for.
use Prim.Native.Nat.{ℕ, suc, ◌+◌, ◌*◌, ◌≤◌, ◌<◌}
use mathlib.Core.Path.{◌≡◌, refl, sym, ◌∙◌, ap, subst⁻¹}
use mathlib.Core.Bool.{Bool, true, false, cond, true≢false}
use mathlib.Core.Logic.{by_cases}
use mathlib.Core.List.{List, [], ◌∷◌, ◌++◌, append-nil, append_assoc}
use native.Mathlib.Decide.{dec_lt}
use native.Mathlib.Nat.{suc-add}
use native.Mathlib.Omega.{arith}
use lib.ListN.{length, take, drop, drop_of_length-le, length-append, length-take, length-drop}
use lib.Dec.{eqb}
use borrow.Author.Tests.{ne_eqb}
use Rattle.std.specs.Prelude.{Option, Some, None}
use Rattle.scan.specs.Find.{index_of, index_after}
use Rattle.number.specs.Decimal.{number_in}
use Rattle.names.specs.Text.{ascii, same_text}
use Rattle.names.specs.Names.{names, kind_from, kind_named}
use Rattle.names.proofs.TextLaws.{same_eq}
use Rattle.line.specs.Lines.{space, newline, before, after, after_key, step_line, undo_line}
use Rattle.line.specs.Lines.{step_in, undo_in, line_of, first_line, unended, lines_from, lines_of}
use Rattle.line.specs.declared.Line.{Line}
use Rattle.line.specs.declared.Line.TheVariants.{Step, Undo}
use Rattle.line.proofs.LineLaws.{first_ended, first-unended}

-- a line that is ended, of which these bytes are passed
lines-ended : (line input : List ℕ) → index_of newline input < length input
    → lines_from line input ≡ line_of (line ++ take (index_of newline input) input) ∷ lines_from [] (drop (index_of newline input + 1) input)
unfolding lines_from index_of
lines-ended line [] ended = absurd (omega arith)
lines-ended line (byte ∷ input) ended = by_byte (eqb byte newline) ended (lines-ended (line ++ (byte ∷ [])) input)
  where
    index : ℕ
    index = index_of newline input

    by_byte : (ends : Bool) → index_after ends index < suc (length input)
        → (index < length input
        → lines_from (line ++ (byte ∷ [])) input ≡ line_of ((line ++ (byte ∷ [])) ++ take index input) ∷
        lines_from [] (drop (index + 1) input))
        → cond ends (line_of line ∷ lines_from [] input) (lines_from (line ++ (byte ∷ [])) input)
        ≡ line_of (line ++ take (index_after ends index) (byte ∷ input)) ∷ lines_from [] (drop (index_after ends index + 1) (byte ∷ input))
    by_byte true ended later = rw (append-nil line)
    by_byte false ended later = later (omega arith) ∙ rw (append_assoc line (byte ∷ []) (take index input), suc-add index 1)

-- what has no newline is one line that can't be read, or none where it is empty
lines-unended : (line input : List ℕ) → length input ≤ index_of newline input → lines_from line input ≡ unended (line ++ input)
unfolding lines_from index_of
lines-unended line [] past = rw (append-nil line)
lines-unended line (byte ∷ input) past = by_byte (eqb byte newline) past (lines-unended (line ++ (byte ∷ [])) input)
  where
    index : ℕ
    index = index_of newline input

    by_byte : (ends : Bool) → suc (length input) ≤ index_after ends index
        → (length input ≤ index → lines_from (line ++ (byte ∷ [])) input ≡ unended ((line ++ (byte ∷ [])) ++ input))
        → cond ends (line_of line ∷ lines_from [] input) (lines_from (line ++ (byte ∷ [])) input) ≡ unended (line ++ (byte ∷ input))
    by_byte true past later = absurd (omega arith)
    by_byte false past later = later (omega arith) ∙ rw (append_assoc line (byte ∷ []) input)

one-unended : (input : List ℕ) → 0 < length input → unended input ≡ None ∷ lines_from [] []
unfolding lines_from
one-unended [] some = absurd (omega arith)
one-unended (byte ∷ input) some = refl

-- the first line, and the lines after it
pub lines_first : (input : List ℕ) → 0 < length input → lines_of input ≡ first_line input ∷ lines_of (after newline input)
unfolding lines_of after
lines_first input some =
    by_cases (dec_lt (index_of newline input) (length input))
    (λ ended. lines-ended [] input ended ∙ rw (first_ended input ended))
    (λ not-ended.
    let past : length input ≤ index_of newline input = omega arith in
    let far : length input ≤ index_of newline input + 1 = omega arith in
    let rest : drop (index_of newline input + 1) input ≡ [] = drop_of_length-le input far in
    lines-unended [] input past ∙ rw (first-unended input past, rest) (one-unended input some))

-- ---- how many bytes a line that says a step has

never : {A : Type 0} → ◌≡◌ {A = ℕ} 0 1 → A
never wrong = absurd (omega arith)

-- each field of a step was read
pub fields_read : (a b c d : Option ℕ) {kind thread place value : ℕ} → step_line a b c d ≡ Some (Step kind thread place value) →
    (a ≡ Some kind) × (b ≡ Some thread) × (c ≡ Some place) × (d ≡ Some value)
unfolding step_line
fields_read None b c d step = never (cc)
fields_read (Some k) None c d step = never (cc)
fields_read (Some k) (Some t) None d step = never (cc)
fields_read (Some k) (Some t) (Some p) None step = never (cc)
fields_read (Some k) (Some t) (Some p) (Some v) step = (cc, cc, cc, cc)

-- an entry of a claimed undo order is no step
undo_no_step : (a b : Option ℕ) {kind thread place value : ℕ} → undo_line a b ≡ Some (Step kind thread place value) → ⊥
unfolding undo_line
undo_no_step None b step = never (cc)
undo_no_step (Some t) None step = never (cc)
undo_no_step (Some t) (Some r) step = never (cc)

-- a line that says a step does not begin with `undo`
step_in_lem : (text : List ℕ) {kind thread place value : ℕ}
    → line_of text ≡ Some (Step kind thread place value) → step_in text ≡ Some (Step kind thread place value)
unfolding line_of undo_in
step_in_lem text {kind} {thread} {place} {value} step = by_word (same_text (before space text) (ascii "undo")) step
  where
    by_word : (undo : Bool) → cond undo (undo_in text) (step_in text) ≡ Some (Step kind thread place value)
        → step_in text ≡ Some (Step kind thread place value)
    by_word true step = absurd (undo_no_step _ _ step)
    by_word false step = step

-- a field that says something has its key, and something after it that says it
pub record Keyed (key : List ℕ) (says : List ℕ → Option ℕ) (text : List ℕ) (number : ℕ) : Type 0 where
  pub begins : take (length key) text ≡ key
  pub said : says (drop (length key) text) ≡ Some number

pub keyed : (key : List ℕ) (says : List ℕ → Option ℕ) (text : List ℕ) {number : ℕ} →
    after_key key says text ≡ Some number → Keyed key says text number
unfolding after_key
keyed key says text {number} read = by_key (same_text (take (length key) text) key) refl read
  where
    by_key : (same : Bool) → same_text (take (length key) text) key ≡ same →
        cond same (says (drop (length key) text)) None ≡ Some number → Keyed key says text number
    by_key true same read = record { begins = same_eq (take (length key) text) key same; said = read }
    by_key false same read = never (cc)

-- a number has a digit
number-some : (text : List ℕ) {number : ℕ} → number_in text ≡ Some number → 1 ≤ length text
unfolding number_in
number-some [] read = never (cc)
number-some (byte ∷ text) read = omega arith

-- the text that says a kind is one of the names
names-all : (Q : List ℕ → Type 0) → List (List ℕ) → Type 0
names-all Q [] = Unit {0}
names-all Q (name ∷ names) = Q name × names-all Q names

kind_among : (Q : List ℕ → Type 0) (number : ℕ) (names : List (List ℕ)) (text : List ℕ) {kind : ℕ} → names-all Q names →
    kind_from number names text ≡ Some kind → Q text
unfolding kind_from names-all
kind_among Q number [] text all read = never (cc)
kind_among Q number (name ∷ names) text {kind} all read =
    by_name (same_text text name) refl read (λ later. kind_among Q (suc number) names text all.1 later)
  where
    by_name : (same : Bool) → same_text text name ≡ same →
        cond same (Some number) (kind_from (suc number) names text) ≡ Some kind →
        (kind_from (suc number) names text ≡ Some kind → Q text) → Q text
    by_name true same read later = subst⁻¹ Q (same_eq text name same) all.0
    by_name false same read later = later read

-- the shortest name is LOG
kind_some : (text : List ℕ) {kind : ℕ} → kind_named text ≡ Some kind → 3 ≤ length text
unfolding kind_named names names-all ascii
kind_some text read = kind_among (λ name. 3 ≤ length name) 1 names text (omega arith) read

-- a field is as long as its key and what comes after it
keyed_long : (key : List ℕ) (says : List ℕ → Option ℕ) (text : List ℕ) {number : ℕ} (size : ℕ) →
    Keyed key says text number → (size ≤ length (drop (length key) text)) → length key + size ≤ length text
keyed_long key says text size field some =
    omega (arith, ap length field.begins, length-take (length key) text, length-drop (length key) text)

-- where something stands after a byte, the byte is there
split_long : (byte : ℕ) (text : List ℕ) → 1 ≤ length (after byte text) →
    length text ≡ length (before byte text) + 1 + length (after byte text)
unfolding before after
split_long byte text some = omega (arith, length-take (index_of byte text) text, length-drop (index_of byte text + 1) text)

-- "step=LOG thread=0 place=0 value=0" has 33 bytes
pub step_long : (text : List ℕ) {kind thread place value : ℕ} → line_of text ≡ Some (Step kind thread place value) → 33 ≤ length text
unfolding step_in ascii
step_long text step =
    let rest = after space text in
    let last = after space rest in
    let read =
    fields_read (after_key (ascii "step=") kind_named (before space text))
    (after_key (ascii "thread=") number_in (before space rest))
    (after_key (ascii "place=") number_in (before space last))
    (after_key (ascii "value=") number_in (after space last)) (step_in_lem text step) in
    let kind = keyed (ascii "step=") kind_named (before space text) read.0 in
    let thread = keyed (ascii "thread=") number_in (before space rest) read.1 in
    let place = keyed (ascii "place=") number_in (before space last) read.2 in
    let value = keyed (ascii "value=") number_in (after space last) read.3 in
    let a : 8 ≤ length (before space text) =
    keyed_long (ascii "step=") kind_named (before space text) 3 kind (kind_some (drop 5 (before space text)) kind.said) in
    let b : 8 ≤ length (before space rest) =
    keyed_long (ascii "thread=") number_in (before space rest) 1 thread (number-some (drop 7 (before space rest)) thread.said) in
    let c : 7 ≤ length (before space last) =
    keyed_long (ascii "place=") number_in (before space last) 1 place (number-some (drop 6 (before space last)) place.said) in
    let d : 7 ≤ length (after space last) =
    keyed_long (ascii "value=") number_in (after space last) 1 value (number-some (drop 6 (after space last)) value.said) in
    let e : length last ≡ length (before space last) + 1 + length (after space last) = split_long space last (omega arith) in
    let f : length rest ≡ length (before space rest) + 1 + length last = split_long space rest (omega arith) in
    let g : length text ≡ length (before space text) + 1 + length rest = split_long space text (omega arith) in
    omega arith

-- the steps before the first line that says none
unfoldable pub leading : List (Option Line) → ℕ
leading [] = 0
leading (Some (Step kind thread place value) ∷ lines) = suc (leading lines)
leading (Some (Undo thread rank) ∷ lines) = 0
leading (None ∷ lines) = 0

-- a step takes 34 bytes at least
steps-from : (line input : List ℕ) → 34 * leading (lines_from line input) ≤ length line + length input
unfolding lines_from leading
steps-from [] [] = omega arith
steps-from (byte ∷ line) [] = omega arith
steps-from line (byte ∷ input) =
    by_byte (eqb byte newline) (line_of line) refl (steps-from [] input) (steps-from (line ++ (byte ∷ [])) input)
  where
    by_byte : (ends : Bool) (says : Option Line) → line_of line ≡ says → 34 * leading (lines_from [] input) ≤ 0 + length input
        → 34 * leading (lines_from (line ++ (byte ∷ [])) input) ≤ length (line ++ (byte ∷ [])) + length input
        → 34 * leading (cond ends (says ∷ lines_from [] input) (lines_from (line ++ (byte ∷ [])) input)) ≤ length line + suc (length input)
    by_byte true (Some (Step kind thread place value)) is later on = omega (arith, step_long line is)
    by_byte true (Some (Undo thread rank)) is later on = omega arith
    by_byte true None is later on = omega arith
    by_byte false says is later on = omega (arith, length-append line (byte ∷ []))

pub steps-most : (input : List ℕ) → 34 * leading (lines_of input) ≤ length input
unfolding lines_of
steps-most input = omega (arith, steps-from [] input)

-- ---- the rest of an input, line by line

-- something is left of the input, or nothing, by the test that code asks
pub some_left : (rest : List ℕ) {empty : Bool} → empty ≡ eqb (length rest) 0 → empty ≡ false → 0 < length rest
some_left [] is not_empty = absurd (true≢false (sym is ∙ not_empty))
some_left (byte ∷ rest) is not_empty = omega arith

pub nothing_left : (rest : List ℕ) {empty : Bool} → empty ≡ eqb (length rest) 0 → empty ≡ true → length rest ≤ 0
nothing_left [] is empty = omega arith
nothing_left (byte ∷ rest) is empty = absurd (true≢false (sym empty ∙ is ∙ ne_eqb (length (byte ∷ rest)) 0 (λ zero. omega arith)))

-- at the end of the input no line is left
pub lines_end : (rest : List ℕ) → length rest ≤ 0 → lines_of rest ≡ []
unfolding lines_of lines_from
lines_end [] none = refl
lines_end (byte ∷ rest) none = absurd (omega arith)

-- what stands after the first line of some input is shorter
pub after-shorter : (rest : List ℕ) → 0 < length rest → length (after newline rest) < length rest
unfolding after
after-shorter rest some = omega (arith, length-drop (index_of newline rest + 1) rest)

-- the first line of the rest is read
pub lines_at : (rest : List ℕ) → 0 < length rest → {line : Option Line} → line ≡ first_line rest →
    lines_of rest ≡ line ∷ lines_of (after newline rest)
lines_at rest some read = lines_first rest some ∙ rw read
