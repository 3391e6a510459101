-- The place that a list is marked with: there is none exactly where its entries can be taken one after the other with none left, and else
-- it is that of the first bad pair.
use Prim.Native.Nat.{ℕ, zero, suc, ◌+◌, ◌*◌, ◌/◌, ◌<◌}
use mathlib.Core.Path.{◌≡◌, refl, sym, ap, ◌∙◌, subst⁻¹}
use mathlib.Core.Bool.{Bool, true, false, cond}
use mathlib.Core.List.{List, [], ◌∷◌, ◌++◌}
use Rattle.std.specs.Prelude.{None, Some}
use Rattle.std.proofs.lemmas.Option.{none-some, same_Some}
use native.Mathlib.Numerals.{add-one}
use native.Mathlib.Omega.{arith}
use lib.ListN.{length, get_or, take, length-append}
use Rattle.image.specs.Stored.{StoredLog}
use Rattle.undoing.specs.Undo.{Undo, take_last}
use Rattle.recovery.specs.Recover.{has_left}
use Rattle.orders.specs.Orders.{Name, name, name_at}
use Rattle.orders.proofs.Takes.{Takes}
use Rattle.pair.specs.Pair.{may_take_name}
use Rattle.pair.proofs.PairLaws.{may-named, named-may}
use Rattle.order.specs.Check.{pairs_of, left_without, some_left, bad_place}
use Rattle.order.specs.Claims.{left_after, FirstBadAt}
use Rattle.order.proofs.Pairs.{pairs_pair, pairs_end}

-- ---- a list without a bad pair

module _ (logs : List StoredLog) where
  -- after a pair whose entry may be taken the rest decides, and one whose entry may not is the bad one
  module _ (left : List ℕ) (place : ℕ) (entry : Name) (order : List Name) where
    pair-taken : may_take_name logs left entry ≡ true →
        bad_place logs left place (entry ∷ order) ≡ bad_place logs (left_without left entry) (suc place) order
    unfolding bad_place
    pair-taken may = rw may

    pair-bad : may_take_name logs left entry ≡ false → bad_place logs left place (entry ∷ order) ≡ Some place
    unfolding bad_place
    pair-bad may_not = rw may_not

  -- where no place is given the entries can be taken one after the other, and none is left
  pub none-takes : (order : List Name) (undo : Undo) (place : ℕ) → bad_place logs undo.left place order ≡ None →
      (end : Undo) × Takes logs undo order end × (has_left end ≡ false)
  unfolding bad_place has_left take_last
  none-takes [] undo place is_none = (undo, Takes.ended, by_left (some_left undo.left) is_none)
    where
      by_left : (left : Bool) → cond left (Some place) None ≡ None → left ≡ false
      by_left true is_none = absurd (none-some place (sym is_none))
      by_left false is_none = refl
  none-takes (entry ∷ order) undo place is_none =
      by-pair (may_take_name logs undo.left entry) refl (none-takes order (take_last logs undo entry.thread) (suc place))
    where
      after : Undo
      after = take_last logs undo entry.thread

      by-pair : (may : Bool) → may_take_name logs undo.left entry ≡ may →
          (bad_place logs after.left (suc place) order ≡ None → (end : Undo) × Takes logs after order end × (has_left end ≡ false)) →
          (end : Undo) × Takes logs undo (entry ∷ order) end × (has_left end ≡ false)
      by-pair true may later =
          let named = may-named logs undo.left entry may in
          let rest = later (sym (pair-taken undo.left place entry order may) ∙ is_none) in (
            rest.0,
            subst⁻¹ (λ (first : Name). Takes logs undo (first ∷ order) rest.0) named.is_last
                (Takes.taking entry.thread named.in_range named.may rest.1),
            rest.2,
          )
      by-pair false may_not later =
          absurd (none-some place (sym is_none ∙ pair-bad undo.left place entry order may_not))

  -- and the other way
  pub takes_none : {order : List Name} {undo end : Undo} → Takes logs undo order end → has_left end ≡ false → (place : ℕ) →
      bad_place logs undo.left place order ≡ None
  unfolding bad_place has_left take_last
  takes_none Takes.ended nothing place = rw nothing
  takes_none {undo = undo} (Takes.taking thread in_range may rest) nothing place =
      rw (named-may logs undo.left thread in_range may) (takes_none rest nothing (suc place))

  -- ---- the first bad pair

  pub bad-first : (order : List Name) (left : List ℕ) (place bad : ℕ) → bad_place logs left place order ≡ Some bad →
      (index : ℕ) × (bad ≡ place + index) × FirstBadAt logs left order index
  unfolding bad_place left_after
  bad-first [] left place bad is_bad = by_left (some_left left) refl is_bad
    where
      by_left : (some_left_lem : Bool) → some_left left ≡ some_left_lem → cond some_left_lem (Some place) None ≡ Some bad →
          (index : ℕ) × (bad ≡ place + index) × FirstBadAt logs left [] index
      by_left true is_left is_bad = (
        0,
        omega (arith, same_Some place bad is_bad),
        record {
          within = omega arith;
          before = λ i less. absurd (omega arith);
          bad = λ less. absurd (omega arith);
          missing = λ same. is_left;
        },
      )
      by_left false none_left is_bad = absurd (none-some bad is_bad)
  bad-first (entry ∷ order) left place bad is_bad =
      by-pair (may_take_name logs left entry) refl (bad-first order (left_without left entry) (suc place) bad)
    where
      by-pair : (may : Bool) → may_take_name logs left entry ≡ may →
          (bad_place logs (left_without left entry) (suc place) order ≡ Some bad →
          (index : ℕ) × (bad ≡ suc place + index) × FirstBadAt logs (left_without left entry) order index) →
          (index : ℕ) × (bad ≡ place + index) × FirstBadAt logs left (entry ∷ order) index
      by-pair true may later =
          let rest = later (sym (pair-taken left place entry order may) ∙ is_bad) in (
            suc rest.0,
            omega (arith, rest.1),
            record {
              within = omega (arith, rest.2.within);
              before = λ i less. before-then i less rest.2.before;
              bad = λ less. rest.2.bad (omega arith);
              missing = λ same. rest.2.missing (omega arith);
            },
          )
        where
          before-then : {index : ℕ} (i : ℕ) → i < suc index →
              ((j : ℕ) → j < index → may_take_name logs (left_after (left_without left entry) (take j order)) (name_at order j) ≡ true) →
              may_take_name logs (left_after left (take i (entry ∷ order))) (name_at (entry ∷ order) i) ≡ true
          before-then zero less earlier = may
          before-then (suc j) less earlier = earlier j (omega arith)
      by-pair false may_not later = (
        0,
        omega (arith, same_Some place bad (sym (pair-bad left place entry order may_not) ∙ is_bad)),
        record {
          within = omega arith;
          before = λ i less. absurd (omega arith);
          bad = λ less. may_not;
          missing = λ same. absurd (omega arith);
        },
      )

  -- counted from 0 the place is the pair's
  pub bad-at : (order : List Name) (left : List ℕ) (bad : ℕ) → bad_place logs left 0 order ≡ Some bad → FirstBadAt logs left order bad
  bad-at order left bad is_bad =
      let found = bad-first order left 0 bad is_bad in
      let same : bad ≡ found.0 = omega (arith, found.1) in
      subst⁻¹ (FirstBadAt logs left order) same found.2

-- ---- the loop over the pairs

-- so many pairs are taken, and the whole list is marked as what is left of it
pub record Come (logs : List StoredLog) (present words left : List ℕ) (place : ℕ) (rest : List ℕ) : Type 0 where
  pub counted : (2 * place + length rest) / 2 ≡ length words / 2
  pub same : bad_place logs present 0 (pairs_of words) ≡ bad_place logs left place (pairs_of rest)

module _ {logs : List StoredLog} {present words left rest : List ℕ} {place : ℕ} (come : Come logs present words left place rest) where
  -- the next two words name an entry
  module _ (pair later : List ℕ) (rest-is : rest ≡ pair ++ later) (two : length pair ≡ 2) where
    abbrev pub pair_at : Name
    pair_at = name (get_or pair 0 0) (get_or pair 1 0)

    next : bad_place logs present 0 (pairs_of words) ≡ bad_place logs left place (pair_at ∷ pairs_of later)
    next = come.same ∙ ap (bad_place logs left place) (ap pairs_of rest-is ∙ pairs_pair pair later two)

    pub come-on : may_take_name logs left pair_at ≡ true → Come logs present words (left_without left pair_at) (place + 1) later
    unfolding bad_place
    come-on may = record {
      counted = omega (arith, come.counted, ap length rest-is, length-append pair later, two);
      same = next ∙ rw (may, add-one place);
    }

    pub come-bad : may_take_name logs left pair_at ≡ false → bad_place logs present 0 (pairs_of words) ≡ Some place
    come-bad may_not = next ∙ pair-bad logs left place pair_at (pairs_of later) may_not

  -- fewer than two words are left
  module _ (end : length rest < 2) where
    last : bad_place logs present 0 (pairs_of words) ≡ cond (some_left left) (Some place) None
    unfolding bad_place
    last = come.same ∙ rw (pairs_end rest end)

    pub come-missing : some_left left ≡ true → bad_place logs present 0 (pairs_of words) ≡ Some (length words / 2)
    come-missing is_left =
        let all : place ≡ length words / 2 = omega (arith, come.counted, end) in
        last ∙ rw is_left (ap Some all)

    pub come-all : some_left left ≡ false → bad_place logs present 0 (pairs_of words) ≡ None
    come-all nothing = last ∙ rw nothing
