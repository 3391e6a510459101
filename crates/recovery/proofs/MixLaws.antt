-- Recovery takes each cell by itself: of an image whose cells are mixed from two images with the same logs, it recovers the mixture of
-- what it recovers of the two.
use Prim.Native.Nat.{ℕ, zero, suc, ◌+◌, ◌-◌, ◌*◌}
use mathlib.Core.Path.{◌≡◌, refl, sym, ap, ap₂, ◌∙◌}
use mathlib.Core.Bool.{Bool, true, false, cond, not, ◌&&◌}
use mathlib.Core.List.{List, [], ◌∷◌, ◌++◌, map}
use Rattle.std.specs.Prelude.{Option, None, Some, Ok, Err}
use native.Mathlib.Nat.{suc_inj, suc-ne-zero}
use native.Mathlib.Omega.{arith}
use lib.ListN.{length, get_or, set, take, drop, length-append, length-set, length-drop}
use lib.Seq.{take-append_seam, drop-append_seam, drop-drop, get_or-drop, length-take-le}
use lib.Dec.{eqb, ltb}
use Rattle.sizes.specs.Sizes.{thread_count}
use Rattle.answer.specs.Lists.{some_below, mix_from}
use Rattle.answer.specs.Refusals.{Test, ◌⇒◌, unless, Outcome}
use Rattle.answer.specs.Answer.{Answer}
use Rattle.answer.specs.declared.Refusal.TheVariants.{WrongLength, BadHead, BadEntry, Cyclic}
use Rattle.answer.proofs.ListLaws.{cond_same, tab-same, length-mix_from}
use Rattle.reader.specs.Stretch.{image_words, heads_at, stretch_at, stretch_words, stretch_of}
use Rattle.image.specs.Stored.{StoredLog, stored_logs, stored_log, present_in, entry_kind, entry_place, entry_value}
use Rattle.image.specs.Tests.{is_bad_head, has_bad_entry, image_tests}
use Rattle.undoing.specs.Undo.{Undo, left_of, lowest_from, take_last, take_from, take_next, take_many, undo_start, undone}
use Rattle.recovery.specs.Recover.{has_left, recover_tests, recover_of}

-- ---- mixtures of lists

-- a mixture of a list with itself is that list
pub mix_from-same : (test : ℕ → Bool) (place : ℕ) (list : List ℕ) → mix_from test place list list ≡ list
unfolding mix_from
mix_from-same test place [] = refl
mix_from-same test place (one ∷ list) =
    ap₂ (λ (first : ℕ) (rest : List ℕ). first ∷ rest) (cond_same (test place) one) (mix_from-same test (suc place) list)

-- what is set in two lists is set in their mixture
pub mix_from_set : (test : ℕ → Bool) (place : ℕ) (news list : List ℕ) (at value : ℕ) → length news ≡ length list
    → mix_from test place (set news at value) (set list at value) ≡ set (mix_from test place news list) at value
unfolding mix_from
mix_from_set test place [] [] at value long = refl
mix_from_set test place (new ∷ news) [] at value long = absurd (suc-ne-zero (length news) long)
mix_from_set test place [] (old ∷ list) at value long = absurd (suc-ne-zero (length list) (sym long))
mix_from_set test place (new ∷ news) (old ∷ list) zero value long =
    ap (λ (first : ℕ). first ∷ mix_from test (suc place) news list) (cond_same (test place) value)
mix_from_set test place (new ∷ news) (old ∷ list) (suc at) value long =
    ap (λ (rest : List ℕ). cond (test place) new old ∷ rest) (mix_from_set test (suc place) news list at value (suc_inj long))

-- ---- undoing

abbrev undo_of : List ℕ → List ℕ → Undo
undo_of left cells = record { left = left; cells = cells }

module _ (test : ℕ → Bool) (logs : List StoredLog) where
  -- a STORE's value is set in both lists and in their mixture, or nothing is
  cells-mix : (is_store : Bool) (cell value : ℕ) (news olds : List ℕ) → length news ≡ length olds
      → cond is_store (set (mix_from test 0 news olds) cell value) (mix_from test 0 news olds)
      ≡ mix_from test 0 (cond is_store (set news cell value) news) (cond is_store (set olds cell value) olds)
  cells-mix true cell value news olds long = sym (mix_from_set test 0 news olds cell value long)
  cells-mix false cell value news olds long = refl

  lengths-keep : (is_store : Bool) (cell value : ℕ) (news olds : List ℕ) → length news ≡ length olds
      → length (cond is_store (set news cell value) news) ≡ length (cond is_store (set olds cell value) olds)
  lengths-keep true cell value news olds long = length-set news cell value ∙ (long ∙ sym (length-set olds cell value))
  lengths-keep false cell value news olds long = long

  -- taking an entry, or none, of a mixture
  record Mixed (left news olds : List ℕ) (next : Option ℕ) : Type 0 where
    pub next_left : List ℕ
    pub next_news : List ℕ
    pub next_olds : List ℕ
    pub same_length : length next_news ≡ length next_olds
    pub of_news : take_from logs (undo_of left news) next ≡ undo_of next_left next_news
    pub of_olds : take_from logs (undo_of left olds) next ≡ undo_of next_left next_olds
    pub of_mixed : take_from logs (undo_of left (mix_from test 0 news olds)) next ≡ undo_of next_left (mix_from test 0 next_news next_olds)

  take-mixes : (left news olds : List ℕ) (next : Option ℕ) → length news ≡ length olds → Mixed left news olds next
  unfolding take_last
  take-mixes left news olds None long = record {
    next_left = left;
    next_news = news;
    next_olds = olds;
    same_length = long;
    of_news = refl;
    of_olds = refl;
    of_mixed = refl;
  }
  take-mixes left news olds (Some thread) long =
      let log = stored_log logs thread in
      let last = left_of left thread - 1 in
      let is_store = eqb (entry_kind log last) 1 in
      record {
        next_left = set left thread last;
        next_news = cond is_store (set news (entry_place log last) (entry_value log last)) news;
        next_olds = cond is_store (set olds (entry_place log last) (entry_value log last)) olds;
        same_length = lengths-keep is_store (entry_place log last) (entry_value log last) news olds long;
        of_news = refl;
        of_olds = refl;
        of_mixed = ap (undo_of (set left thread last)) (cells-mix is_store (entry_place log last) (entry_value log last) news olds long);
      }

  -- taking many entries of a mixture
  record Undone (count : ℕ) (left news olds : List ℕ) : Type 0 where
    pub left_same : (take_many count logs (undo_of left news)).left ≡ (take_many count logs (undo_of left olds)).left
    pub mixed : take_many count logs (undo_of left (mix_from test 0 news olds))
        ≡ undo_of (take_many count logs (undo_of left olds)).left
        (mix_from test 0 (take_many count logs (undo_of left news)).cells (take_many count logs (undo_of left olds)).cells)

  many-mix : (count : ℕ) (left news olds : List ℕ) → length news ≡ length olds → Undone count left news olds
  unfolding take_many take_next
  many-mix zero left news olds long = record { left_same = refl; mixed = refl }
  many-mix (suc count) left news olds long =
      let next = take-mixes left news olds (lowest_from logs left 0 thread_count) long in
      let rest = many-mix count next.next_left next.next_news next.next_olds next.same_length in
      let turned : Undo → Undo = take_many count logs in
      record {
        left_same =
            ap (λ (undo : Undo). (turned undo).left) next.of_news ∙
            (rest.left_same ∙ sym (ap (λ (undo : Undo). (turned undo).left) next.of_olds));
        mixed =
            ap turned next.of_mixed ∙
            (rest.mixed ∙
            sym (ap₂ (λ (new old : Undo). undo_of (turned old).left (mix_from test 0 (turned new).cells (turned old).cells))
            next.of_news next.of_olds));
      }

-- ---- an image whose cells are mixed

-- the words behind the cells tell the logs
logs-same : (one other : List ℕ) → length one ≡ image_words → length other ≡ image_words →
    drop heads_at one ≡ drop heads_at other → stored_logs one ≡ stored_logs other
unfolding stored_logs stretch_of
logs-same one other is_image is_other same =
    tab-same thread_count _ _
    (λ thread below.
    ap₂ (λ (head : ℕ) (stretch : List ℕ). record { head = head; stretch = stretch })
    (sym (get_or-drop heads_at one thread 0) ∙ (ap (λ (words : List ℕ). get_or words thread 0) same ∙ get_or-drop heads_at other thread 0))
    (ap₂ (λ (words : ℕ) (rest : List ℕ). cond (ltb thread 4 && eqb words image_words) (take stretch_words rest) []) (is_image ∙ sym is_other)
    (behind thread one ∙ (ap (drop (4 + thread * stretch_words)) same ∙ sym (behind thread other)))))
  where
    behind : (thread : ℕ) (image : List ℕ) → drop (stretch_at thread) image ≡ drop (4 + thread * stretch_words) (drop heads_at image)
    behind thread image =
        let at : stretch_at thread ≡ heads_at + (4 + thread * stretch_words) = omega arith in
        ap (λ (place : ℕ). drop place image) at ∙ sym (drop-drop (4 + thread * stretch_words) heads_at image)

-- the image with its cells mixed from two images, and the words behind them from the second
abbrev pub mixed_image : (ℕ → Bool) → List ℕ → List ℕ → List ℕ
mixed_image test news olds = mix_from test 0 (take heads_at news) (take heads_at olds) ++ drop heads_at olds

-- the answer of the second outcome, and the cells of the two mixed
abbrev pub mixed_outcome : (ℕ → Bool) → Outcome → Outcome → Outcome
mixed_outcome test news olds = record { answer = olds.answer; buffer = mix_from test 0 news.buffer olds.buffer }

-- recovery's tests ask the image's length, its logs, and which entries are left
abbrev tests_with : ℕ → List StoredLog → List ℕ → List ℕ → List Test
tests_with words logs left buffer =
    (not (eqb (length buffer) heads_at) ⇒ WrongLength) ∷
    (not (eqb words image_words) ⇒ WrongLength) ∷
    (some_below thread_count (λ thread. is_bad_head (stored_log logs thread)) ⇒ BadHead) ∷
    (some_below thread_count (λ thread. has_bad_entry (stored_log logs thread)) ⇒ BadEntry) ∷ (has_left (undo_of left []) ⇒ Cyclic) ∷ []

tests_are : (image buffer : List ℕ) → recover_tests image buffer ≡ tests_with (length image) (stored_logs image) (undone image).left buffer
unfolding recover_tests image_tests has_left
tests_are image buffer = refl

-- a refusal is the same for two lists of cells and for their mixture, and where none is given the cells are the mixture
unless_mixes : (test : ℕ → Bool) (buffer news olds : List ℕ) (tests : List Test)
    → let refuse : Answer → Outcome = λ answer. record { answer = answer; buffer = buffer } in
    let outcome : List ℕ → Outcome = λ cells. unless refuse tests (record { answer = Ok 0; buffer = cells }) in
    outcome (mix_from test 0 news olds) ≡ mixed_outcome test (outcome news) (outcome olds)
unfolding unless
unless_mixes test buffer news olds [] = refl
unless_mixes test buffer news olds ((true ⇒ refusal) ∷ tests) =
    ap (λ (cells : List ℕ). record { answer = Err refusal; buffer = cells }) (sym (mix_from-same test 0 buffer))
unless_mixes test buffer news olds ((false ⇒ refusal) ∷ tests) = unless_mixes test buffer news olds tests

module _ (test : ℕ → Bool) (news olds buffer : List ℕ) (is_news : length news ≡ image_words)
    (is_olds : length olds ≡ image_words) (same : drop heads_at news ≡ drop heads_at olds) where
  abbrev mixed : List ℕ
  mixed = mixed_image test news olds

  abbrev cells : List ℕ
  cells = mix_from test 0 (take heads_at news) (take heads_at olds)

  cells-long : length cells ≡ heads_at
  cells-long = length-mix_from test 0 (take heads_at news) (take heads_at olds) ∙ (length-take-le heads_at olds (omega arith))

  mixed-long : length mixed ≡ image_words
  mixed-long = length-append cells (drop heads_at olds) ∙ omega (arith, cells-long, length-drop heads_at olds)

  mixed-rest : drop heads_at mixed ≡ drop heads_at olds
  mixed-rest = ap (λ (count : ℕ). drop count mixed) (sym cells-long) ∙ drop-append_seam cells (drop heads_at olds)

  mixed-cells : take heads_at mixed ≡ cells
  mixed-cells = ap (λ (count : ℕ). take count mixed) (sym cells-long) ∙ take-append_seam cells (drop heads_at olds)

  mixed-logs : stored_logs mixed ≡ stored_logs olds
  mixed-logs = logs-same mixed olds mixed-long is_olds mixed-rest

  news-logs : stored_logs news ≡ stored_logs olds
  news-logs = logs-same news olds is_news is_olds same

  abbrev undoing : List StoredLog → List ℕ → Undo
  undoing logs cells = take_many 256 logs (undo_of (map present_in logs) cells)

  both-undone : Undone test (stored_logs olds) 256 (map present_in (stored_logs olds)) (take heads_at news) (take heads_at olds)
  both-undone =
      many-mix test (stored_logs olds) 256 (map present_in (stored_logs olds)) (take heads_at news) (take heads_at olds)
      (length-take-le heads_at news (omega arith) ∙ sym (length-take-le heads_at olds (omega arith)))

  news-undone : undone news ≡ undoing (stored_logs olds) (take heads_at news)
  unfolding undone undo_start
  news-undone = ap (λ (logs : List StoredLog). undoing logs (take heads_at news)) news-logs

  olds-undone : undone olds ≡ undoing (stored_logs olds) (take heads_at olds)
  unfolding undone undo_start
  olds-undone = refl

  mixed-as : undone mixed ≡ undoing (stored_logs olds) cells
  unfolding undone undo_start
  mixed-as = ap₂ undoing mixed-logs mixed-cells

  mixed-undone : undone mixed ≡ undo_of (undone olds).left (mix_from test 0 (undone news).cells (undone olds).cells)
  mixed-undone =
      mixed-as ∙
      (both-undone.mixed ∙
      sym (ap₂ (λ (new old : Undo). undo_of old.left (mix_from test 0 new.cells old.cells)) news-undone olds-undone))

  abbrev refuse : Answer → Outcome
  refuse answer = record { answer = answer; buffer = buffer }

  abbrev accepts : List ℕ → Outcome
  accepts cells = record { answer = Ok 0; buffer = cells }

  tests_same : (image : List ℕ) → length image ≡ image_words → stored_logs image ≡ stored_logs olds →
      (undone image).left ≡ (undone olds).left → recover_tests image buffer ≡ recover_tests olds buffer
  tests_same image is_image logs left =
      tests_are image buffer ∙
      (ap (λ (words : ℕ). tests_with words (stored_logs image) (undone image).left buffer) (is_image ∙ sym is_olds) ∙
      (ap₂ (λ (logs : List StoredLog) (left : List ℕ). tests_with (length olds) logs left buffer) logs left ∙ sym (tests_are olds buffer)))

  mixed-tests : recover_tests mixed buffer ≡ recover_tests olds buffer
  mixed-tests = tests_same mixed mixed-long mixed-logs (ap (λ (undo : Undo). undo.left) mixed-undone)

  news-tests : recover_tests news buffer ≡ recover_tests olds buffer
  news-tests =
      tests_same news is_news news-logs
      (ap (λ (undo : Undo). undo.left) news-undone ∙ (both-undone.left_same ∙ sym (ap (λ (undo : Undo). undo.left) olds-undone)))

  -- recovery of an image whose cells are mixed from two with the same logs is the mixture of the two recoveries
  pub recover-mixes : recover_of mixed buffer ≡ mixed_outcome test (recover_of news buffer) (recover_of olds buffer)
  unfolding recover_of
  recover-mixes =
      ap₂ (λ (tests : List Test) (cells : List ℕ). unless refuse tests (accepts cells)) mixed-tests
      (ap (λ (undo : Undo). undo.cells) mixed-undone) ∙
      (unless_mixes test buffer (undone news).cells (undone olds).cells (recover_tests olds buffer) ∙
      ap
      (λ (tests : List Test).
      mixed_outcome test (unless refuse tests (accepts (undone news).cells)) (recover_of olds buffer))
      (sym news-tests))
