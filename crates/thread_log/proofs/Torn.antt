-- What stands in a slot once the first so many words of an entry were persisted over its old ones, for entries of any width.
use Prim.Native.Nat.{ℕ, ◌+◌, ◌-◌, ◌≤◌}
use mathlib.Core.Path.{◌≡◌, ap, sym, ◌∙◌}
use mathlib.Core.List.{List, ◌++◌}
use mathlib.Core.Logic.{by_cases}
use native.Mathlib.Decide.{dec_lt}
use native.Mathlib.Omega.{arith}
use lib.ListN.{length, take, drop, length-take, take-append-drop}
use lib.Seq.{length-take-le, take-append-le, drop-append-add, take-take, drop-drop}

-- the words of the slot: the first so many are the new ones, and from there on the old ones
abbrev pub torn_over : List ℕ → List ℕ → ℕ → List ℕ
torn_over old new count = take count new ++ drop count old

-- the words from `said` on tell the entry's LSN; those before it are what the entry says
module _ (old new : List ℕ) (said : ℕ) (same_width : length old ≡ length new) (said_in : said ≤ length new) where
  -- where no word that tells the LSN was reached, those that tell it are the old ones
  old-tells : (count : ℕ) → count ≤ said → drop said (torn_over old new count) ≡ drop said old
  old-tells count few =
      let front : length (take count new) ≡ count = length-take-le count new (omega arith) in
      let place : said ≡ length (take count new) + (said - count) = omega arith in
      let back : count + (said - count) ≡ said = omega arith in
      ap (λ k. drop k (torn_over old new count)) place
      ∙ drop-append-add (take count new) (drop count old) (said - count)
      ∙ drop-drop (said - count) count old
      ∙ ap (λ k. drop k old) back

  -- where all words before those that tell the LSN were reached, all that the entry says is there
  new-says : (count : ℕ) → said ≤ count → take said (torn_over old new count) ≡ take said new
  new-says count many =
      take-append-le said (take count new) (drop count old) (omega (arith, length-take count new))
      ∙ take-take said count new many

  -- words of an entry that the slot has already change nothing
  pub torn-same : (count : ℕ) → old ≡ new → torn_over old new count ≡ new
  torn-same count same = ap (λ words. take count new ++ drop count words) same ∙ take-append-drop count new

  -- a slot that tells the entry's LSN has the entry whole, if that was so before
  pub torn-whole : (count : ℕ) → (drop said old ≡ drop said new → old ≡ new)
      → drop said (torn_over old new count) ≡ drop said new → torn_over old new count ≡ new
  torn-whole count whole_before tells =
      by_cases
      (dec_lt said count)
      (λ many.
      sym (take-append-drop said (torn_over old new count))
      ∙ ap (λ front. front ++ drop said (torn_over old new count)) (new-says count (omega arith))
      ∙ ap (λ back. take said new ++ back) tells
      ∙ take-append-drop said new)
      (λ few. torn-same count (whole_before (sym (old-tells count (omega (arith, few))) ∙ tells)))
