-- A part of a list that is written over: what the whole list is then.
use Prim.Native.Nat.{ℕ, ◌+◌, ◌-◌, ◌≤◌, ◌<◌}
use native.Mathlib.Omega.{arith}
use native.Mathlib.Decide.{dec_lt}
use mathlib.Core.Path.{◌≡◌}
use mathlib.Core.Logic.{by_cases}
use mathlib.Core.List.{List}
use lib.ListN.{length, get_or, length-append, length-take, length-drop}
use lib.Seq.{ext_get_or}
use borrow.Author.Rules.{rules}
use borrow.Rule.Slice.PartMut.{put_mid}
use Rattle.std.proofs.lemmas.List.{places}

module _ {A : Type 0} (new old part : List A) (d : A) (first count : ℕ) (long : length new ≡ length old) (fits : first + count ≤ length old)
    (part_long : length part ≡ count)
    (before : (i : ℕ) → i < first → get_or new i d ≡ get_or old i d)
    (inside : (i : ℕ) → i < count → get_or part i d ≡ get_or new (first + i) d)
    (after : (i : ℕ) → first + count ≤ i → get_or new i d ≡ get_or old i d) where
  length_written : length (put_mid first count old part) ≡ length new
  length_written = simp (length-append, length-take, length-drop) (omega arith)

  pub written : put_mid first count old part ≡ new
  written =
      ext_get_or d (put_mid first count old part) new length_written
      (λ i below.
      by_cases (dec_lt i first)
      (λ less. let same = before i less in search (rules, places))
      (λ past.
      by_cases (dec_lt i (first + count))
      (λ less. let same : get_or part (i - first) d ≡ get_or new (first + (i - first)) d = inside (i - first) (omega arith) in
      let here : first + (i - first) ≡ i = omega arith in
      search (rules, places))
      (λ out. let same : get_or new i d ≡ get_or old i d = after i (omega arith) in search (rules, places))))
