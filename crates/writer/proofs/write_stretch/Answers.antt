-- `writer::write_stretch` meets its contract, by its loop's invariant.
use mathlib.Core.Path.{◌≡◌, refl, sym, ap, ◌∙◌}
use mathlib.Core.List.{List, map, append-nil}
use Prim.Native.Nat.{ℕ, ◌+◌, ◌*◌, ◌/◌, ◌%◌}
use native.Mathlib.Omega.{arith}
use borrow.Author.Rules.{rules}
use borrow.Author.Tests.{lt-ltb, le-ltb}
use lib.ListN.{length, get_or, take, length-map, drop_of_length-le}
use lib.Seq.{take_all, length-take-le}
use Rattle.entry.specs.Words.{words_of}
use Rattle.entry.specs.declared.Entry.{Entry}
use Rattle.writer.specs.Written.{written_of}
use Rattle.writer.proofs.Copied.{copied_more}
use Rattle.thread_log.proofs.SlotLaws.{length_words, slot-word}
use Rattle.writer.proofs.write_stretch.Goals as goal

-- a list is as long as one that is mapped from it
length-mapped : (X Y : Type 0) (f : X → Y) (l : List X) (n : ℕ) → length (map f l) ≡ n → length l ≡ n
length-mapped X Y f l n is = sym (length-map l f) ∙ is

-- 64 slots have 256 words
all_words : (slots : List Entry) → length slots ≡ 64 → length (words_of slots) ≡ 256
all_words slots sized = length_words slots ∙ omega arith

pub returns-then-part-lt-STRETCH_WORDS : goal.returns-then-part-lt-STRETCH_WORDS
unfolding written_of
returns-then-part-lt-STRETCH_WORDS c = rw (lt-ltb (length c.args.part.now) 256 c.if-part-lt-STRETCH_WORDS.true)

pub bounds-log-index : goal.bounds-log-index
bounds-log-index c = let stretch = length-take-le 256 c.args.part.now c.if-part-lt-STRETCH_WORDS.false in omega arith

pub offset_bounds-log-index : goal.offset_bounds-log-index
offset_bounds-log-index c = let stretch = length-take-le 256 c.args.part.now c.if-part-lt-STRETCH_WORDS.false in omega arith

pub loop-index-init : goal.loop-index-init
loop-index-init c = (refl, λ some. absurd (omega arith))

pub loop-index-preserved : goal.loop-index-preserved
loop-index-preserved c =
    let slots = c.args.log.now.persisted in
    let part = c.args.part.now in
    let i = c.loop-index.index in
    let sized : length slots ≡ 64 = search (rules, length-mapped) in
    let words = all_words slots sized in
    let stretch = length-take-le 256 part c.if-part-lt-STRETCH_WORDS.false in
    let here : i / 4 * 4 + i % 4 ≡ i = omega arith in
    let word : c.word.result ≡ get_or (words_of slots) i 0 =
    c.word.ensures
    ∙ sym (slot-word slots (i / 4) (i % 4) (omega arith))
    ∙ ap (λ place. get_or (words_of slots) place 0) here in (
      rw (c.loop-index.invariant.0, word) (copied_more (take 256 part) (words_of slots) i (omega arith) (omega arith)),
      λ some. sized,
    )

pub returns : goal.returns
unfolding written_of
returns c =
    let slots = c.args.log.now.persisted in
    let part = c.args.part.now in
    let stretch = length-take-le 256 part c.if-part-lt-STRETCH_WORDS.false in
    let all : c.loop-index.index ≡ 256 = omega arith in
    let words = all_words slots (c.loop-index.invariant.1 (omega arith)) in
    rw (
      le-ltb (length part) 256 c.if-part-lt-STRETCH_WORDS.false,
      c.loop-index.invariant.0,
      all,
      take_all 256 (words_of slots) (omega arith),
      drop_of_length-le (take 256 part) {i = 256} (omega arith),
      append-nil,
    )
