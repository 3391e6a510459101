-- Laws of the definitions on lists that the crates share: what such a list has at each place, and how a loop comes to it.
use Prim.Native.Nat.{ℕ, zero, suc, ◌+◌, ◌≤◌, ◌<◌}
use native.Mathlib.Nat.{not-suc-le-zero, le_of_suc-le-suc, zero-add, suc_inj, suc-ne-zero}
use native.Mathlib.Decide.{dec_lt, ℕ_discrete}
use native.Mathlib.Omega.{arith}
use mathlib.Core.Path.{◌≡◌, refl, sym, ap, ap₂, ◌∙◌}
use mathlib.Core.Logic.{by_cases}
use mathlib.Core.Bool.{Bool, true, false, cond}
use mathlib.Core.List.{List, [], ◌∷◌, ◌++◌, map}
use lib.ListN.{length, get_or, set, take, drop, replicate, length-set, length-append, length-take, length-drop, get_or-eq_default}
use lib.Seq.{ext_get_or, get_or-set_same, get_or-set_other}
use lib.Dec.{eqb, ltb, leb-suc-suc}
use borrow.Author.Tests.{lt-ltb, le-ltb, eq-eqb, ne_eqb}
use Rattle.answer.specs.Lists.{tab, set_from, mix_from}

-- a choice between a thing and itself
pub cond_same : {A : Type 0} (test : Bool) (a : A) → cond test a a ≡ a
cond_same true a = refl
cond_same false a = refl

module _ {A : Type 0} where
  -- ---- tab

  pub length-tab : (n : ℕ) (f : ℕ → A) → length (tab n f) ≡ n
  unfolding tab
  length-tab zero f = refl
  length-tab (suc n) f = ap suc (length-tab n (λ i. f (suc i)))

  pub get_d-tab : (n : ℕ) (f : ℕ → A) (i : ℕ) (d : A) → i < n → get_or (tab n f) i d ≡ f i
  unfolding tab
  get_d-tab zero f i d below = absurd (not-suc-le-zero below)
  get_d-tab (suc n) f zero d below = refl
  get_d-tab (suc n) f (suc i) d below = get_d-tab n (λ k. f (suc k)) i d (le_of_suc-le-suc below)

  -- a table, and its last element
  pub tab-last : (n : ℕ) (f : ℕ → A) → tab (suc n) f ≡ tab n f ++ (f n ∷ [])
  unfolding tab
  tab-last zero f = refl
  tab-last (suc n) f = ap (λ (rest : List A). f 0 ∷ rest) (tab-last n (λ i. f (suc i)))

  -- functions that agree at each place give the same table
  pub tab-same : (n : ℕ) (f g : ℕ → A) → ((i : ℕ) → i < n → f i ≡ g i) → tab n f ≡ tab n g
  unfolding tab
  tab-same zero f g same = refl
  tab-same (suc n) f g same =
      ap₂ ◌∷◌ (same 0 (omega arith)) (tab-same n (λ i. f (suc i)) (λ i. g (suc i)) (λ i below. same (suc i) (omega arith)))

  -- a list is the table of its elements
  pub tab-get_d : (list : List A) (d : A) → tab (length list) (λ i. get_or list i d) ≡ list
  unfolding tab
  tab-get_d [] d = refl
  tab-get_d (x ∷ list) d = ap (λ (rest : List A). x ∷ rest) (tab-get_d list d)

  -- ---- what a list has after a store, at any place within it

  pub get_d_set : (list : List A) (i : ℕ) (a : A) (j : ℕ) (d : A) → j < length list →
      get_or (set list i a) j d ≡ cond (eqb j i) a (get_or list j d)
  get_d_set list i a j d below =
      by_cases (ℕ_discrete j i)
      (λ e. rw (eq-eqb j i e) (ap (λ (k : ℕ). get_or (set list i a) k d) e ∙ get_or-set_same list i a d (omega (arith, e))))
      (λ ne. rw (ne_eqb j i ne) (get_or-set_other list i j a d ne))

  -- after a store of what stands past the end, the place stored to has that, and every other place has what it had
  pub get_d-unset : (list : List A) (i j : ℕ) (d : A) → get_or (set list i d) j d ≡ cond (eqb j i) d (get_or list j d)
  get_d-unset list i j d =
      by_cases (dec_lt j (length list)) (get_d_set list i d j d)
      (λ past.
      get_or-eq_default (set list i d) d (omega (arith, length-set list i d)) ∙
      sym (ap (cond (eqb j i) d) (get_or-eq_default list d (omega arith)) ∙ cond_same (eqb j i) d))

  -- a list of nothing but what stands past its end has that everywhere
  pub get_d-blank : (n i : ℕ) (d : A) → get_or (replicate n d) i d ≡ d
  get_d-blank zero i d = refl
  get_d-blank (suc n) zero d = refl
  get_d-blank (suc n) (suc i) d = get_d-blank n i d

  -- ---- set_from

  pub length-set_from : (test : ℕ → Bool) (value : A) (place : ℕ) (list : List A) → length (set_from test value place list) ≡ length list
  unfolding set_from
  length-set_from test value place [] = refl
  length-set_from test value place (old ∷ list) = ap suc (length-set_from test value (suc place) list)

  get_d-set_from-at : (test : ℕ → Bool) (value : A) (place : ℕ) (list : List A) (i : ℕ) (d : A) → i < length list →
      get_or (set_from test value place list) i d ≡ cond (test (place + i)) value (get_or list i d)
  unfolding set_from
  get_d-set_from-at test value place [] i d below = absurd (not-suc-le-zero below)
  get_d-set_from-at test value place (old ∷ list) zero d below = ap (λ (k : ℕ). cond (test k) value old) (omega arith)
  get_d-set_from-at test value place (old ∷ list) (suc i) d below =
      get_d-set_from-at test value (suc place) list i d (le_of_suc-le-suc below) ∙
      ap (λ (k : ℕ). cond (test k) value (get_or list i d)) (omega arith)

  -- within the list, set_from has the value where the test holds, and else what was there
  pub get_d-set_from : (test : ℕ → Bool) (value : A) (list : List A) (i : ℕ) (d : A) → i < length list →
      get_or (set_from test value 0 list) i d ≡ cond (test i) value (get_or list i d)
  get_d-set_from test value list i d below =
      get_d-set_from-at test value 0 list i d below ∙ ap (λ (k : ℕ). cond (test k) value (get_or list i d)) (zero-add i)

  -- at every place of which the test fails, set_from has what was there
  pub get_d-set_from-kept : (test : ℕ → Bool) (value : A) (list : List A) (i : ℕ) (d : A) → test i ≡ false →
      get_or (set_from test value 0 list) i d ≡ get_or list i d
  get_d-set_from-kept test value list i d fails =
      by_cases (dec_lt i (length list))
      (λ below. get_d-set_from test value list i d below ∙ rw fails)
      (λ past.
      get_or-eq_default (set_from test value 0 list) d (omega (arith, length-set_from test value 0 list)) ∙
      sym (get_or-eq_default list d (omega arith)))

  -- where the value is what stands past the end, set_from has it at every place of which the test holds, and else what was there
  pub get_d-clear_from : (test : ℕ → Bool) (list : List A) (i : ℕ) (d : A) →
      get_or (set_from test d 0 list) i d ≡ cond (test i) d (get_or list i d)
  get_d-clear_from test list i d =
      by_cases (dec_lt i (length list)) (get_d-set_from test d list i d)
      (λ past.
      let out : length list ≤ i = omega arith in
      get_or-eq_default (set_from test d 0 list) d (omega (arith, length-set_from test d 0 list)) ∙
      sym (ap (cond (test i) d) (get_or-eq_default list d out) ∙ cond_same (test i) d))

  set_from-none-at : (test : ℕ → Bool) (value : A) (place : ℕ) (list : List A) →
      ((i : ℕ) → place ≤ i → i < place + length list → test i ≡ false) → set_from test value place list ≡ list
  unfolding set_from
  set_from-none-at test value place [] none = refl
  set_from-none-at test value place (old ∷ list) none =
      rw (none place (omega arith) (omega arith))
      (ap (λ (rest : List A). old ∷ rest)
      (set_from-none-at test value (suc place) list (λ i past below. none i (omega arith) (omega arith))))

  -- where the test holds of no place, the list is as it was
  pub set_from-none : (test : ℕ → Bool) (value : A) (list : List A) → ((i : ℕ) → i < length list → test i ≡ false) →
      set_from test value 0 list ≡ list
  set_from-none test value list none = set_from-none-at test value 0 list (λ i past below. none i (omega arith))

  -- ---- mix_from

  pub length-mix_from : (test : ℕ → Bool) (place : ℕ) (news list : List A) → length (mix_from test place news list) ≡ length list
  unfolding mix_from
  length-mix_from test place news [] = refl
  length-mix_from test place [] (old ∷ list) = refl
  length-mix_from test place (new ∷ news) (old ∷ list) = ap suc (length-mix_from test (suc place) news list)

  get_d-mix_from-at : (test : ℕ → Bool) (place : ℕ) (news list : List A) (i : ℕ) (d : A) → length news ≡ length list →
      get_or (mix_from test place news list) i d ≡ cond (test (place + i)) (get_or news i d) (get_or list i d)
  unfolding mix_from
  get_d-mix_from-at test place [] [] i d long = sym (cond_same (test (place + i)) d)
  get_d-mix_from-at test place (new ∷ news) [] i d long = absurd (suc-ne-zero (length news) long)
  get_d-mix_from-at test place [] (old ∷ list) i d long = absurd (suc-ne-zero (length list) (sym long))
  get_d-mix_from-at test place (new ∷ news) (old ∷ list) zero d long = ap (λ (k : ℕ). cond (test k) new old) (omega arith)
  get_d-mix_from-at test place (new ∷ news) (old ∷ list) (suc i) d long =
      get_d-mix_from-at test (suc place) news list i d (suc_inj long) ∙
      ap (λ (k : ℕ). cond (test k) (get_or news i d) (get_or list i d)) (omega arith)

  -- at every place mix_from has what the first list has where the test holds, and else what the second has
  pub get_d-mix_from : (test : ℕ → Bool) (news list : List A) (i : ℕ) (d : A) → length news ≡ length list →
      get_or (mix_from test 0 news list) i d ≡ cond (test i) (get_or news i d) (get_or list i d)
  get_d-mix_from test news list i d long =
      get_d-mix_from-at test 0 news list i d long ∙ ap (λ (k : ℕ). cond (test k) (get_or news i d) (get_or list i d)) (zero-add i)

  mix_from-none-at : (test : ℕ → Bool) (place : ℕ) (news list : List A) →
      ((i : ℕ) → place ≤ i → i < place + length list → test i ≡ false) → mix_from test place news list ≡ list
  unfolding mix_from
  mix_from-none-at test place news [] none = refl
  mix_from-none-at test place [] (old ∷ list) none = refl
  mix_from-none-at test place (new ∷ news) (old ∷ list) none =
      rw (none place (omega arith) (omega arith))
      (ap (λ (rest : List A). old ∷ rest) (mix_from-none-at test (suc place) news list (λ i past below. none i (omega arith) (omega arith))))

  -- where the test holds of no place, the second list is as it was
  pub mix_from-none : (test : ℕ → Bool) (news list : List A) → ((i : ℕ) → i < length list → test i ≡ false) → mix_from test 0 news list ≡ list
  mix_from-none test news list none = mix_from-none-at test 0 news list (λ i past below. none i (omega arith))

  -- ---- a loop that rewrites a list from the front: the new list below a place, and the old one from there on

  abbrev pub partly : ℕ → List A → List A → List A
  partly place new old = take place new ++ drop place old

  get_d-partly-at : (place : ℕ) (new old : List A) (i : ℕ) (d : A) → length new ≡ length old →
      get_or (partly place new old) i d ≡ cond (ltb i place) (get_or new i d) (get_or old i d)
  get_d-partly-at zero new old i d long = rw (le-ltb i 0 (omega arith))
  get_d-partly-at (suc place) [] [] i d long = sym (cond_same (ltb i (suc place)) d)
  get_d-partly-at (suc place) (x ∷ new) [] i d long = absurd (suc-ne-zero (length new) long)
  get_d-partly-at (suc place) [] (y ∷ old) i d long = absurd (suc-ne-zero (length old) (sym long))
  get_d-partly-at (suc place) (x ∷ new) (y ∷ old) zero d long = rw (lt-ltb 0 (suc place) (omega arith))
  get_d-partly-at (suc place) (x ∷ new) (y ∷ old) (suc i) d long =
      rw (leb-suc-suc (suc i) place) (get_d-partly-at place new old i d (suc_inj long))

  module _ (new old : List A) (d : A) (long : length new ≡ length old) where
    pub length-partly : (place : ℕ) → length (partly place new old) ≡ length old
    length-partly place = simp (length-append, length-take, length-drop) (omega arith)

    pub get_d-partly : (place i : ℕ) → get_or (partly place new old) i d ≡ cond (ltb i place) (get_or new i d) (get_or old i d)
    get_d-partly place i = get_d-partly-at place new old i d long

    -- a list is the new one below a place, and the old one from there on, where it has what they have
    pub is-partly : (place : ℕ) (list : List A) → length list ≡ length old →
        ((i : ℕ) → i < place → get_or list i d ≡ get_or new i d) → ((i : ℕ) → place ≤ i → get_or list i d ≡ get_or old i d) →
        list ≡ partly place new old
    is-partly place list as_long front back =
        ext_get_or d list (partly place new old) (as_long ∙ sym (length-partly place))
        (λ i below.
        by_cases (dec_lt i place)
        (λ less. rw (get_d-partly place i, lt-ltb i place less) (front i less))
        (λ past. rw (get_d-partly place i, le-ltb i place (omega arith)) (back i (omega arith))))

    -- some stores that take the list from one place to another: what they write is what the new list has
    pub partly-to : (place end : ℕ) (list : List A) → length list ≡ length old → place ≤ end →
        ((i : ℕ) → place ≤ i → i < end → get_or list i d ≡ get_or new i d) →
        ((i : ℕ) → i < place → get_or list i d ≡ get_or (partly place new old) i d) →
        ((i : ℕ) → end ≤ i → get_or list i d ≡ get_or (partly place new old) i d) → list ≡ partly end new old
    partly-to place end list as_long le written front back =
        is-partly end list as_long
        (λ i below.
        by_cases (dec_lt i place)
        (λ less. front i less ∙ get_d-partly place i ∙ rw (lt-ltb i place less))
        (λ past. written i (omega arith) below))
        (λ i past. back i past ∙ get_d-partly place i ∙ rw (le-ltb i place (omega arith)))

    -- a store of what the new list has
    pub partly-write : (place : ℕ) (value : A) → place < length old → get_or new place d ≡ value →
        set (partly place new old) place value ≡ partly (place + 1) new old
    partly-write place value below is =
        let same = length-partly place in
        partly-to place (place + 1) (set (partly place new old) place value)
        (length-set (partly place new old) place value ∙ same) (omega arith)
        (λ i le less.
        let here : i ≡ place = omega arith in
        rw here (get_or-set_same (partly place new old) place value d (omega arith) ∙ sym is))
        (λ i less. get_or-set_other (partly place new old) place i value d (omega arith))
        (λ i past. get_or-set_other (partly place new old) place i value d (omega arith))

    -- where the two lists are the same from one place to another, nothing need be written
    pub partly-keep : (place end : ℕ) → place ≤ end → ((i : ℕ) → place ≤ i → i < end → get_or new i d ≡ get_or old i d) →
        partly place new old ≡ partly end new old
    partly-keep place end le same =
        partly-to place end (partly place new old) (length-partly place) le
        (λ i past less. get_d-partly place i ∙ rw (le-ltb i place past, same i past less))
        (λ i less. refl)
        (λ i past. refl)

    -- before the first place at which the two lists differ, the partly rewritten list is the old one
    pub partly-start : (place : ℕ) → ((i : ℕ) → i < place → get_or new i d ≡ get_or old i d) → old ≡ partly place new old
    partly-start place same = is-partly place old refl (λ i below. sym (same i below)) (λ i past. refl)

    -- past the last place at which the two lists differ, the partly rewritten list is the new one
    pub partly-done : (place : ℕ) → ((i : ℕ) → place ≤ i → get_or new i d ≡ get_or old i d) → partly place new old ≡ new
    partly-done place same = sym (is-partly place new long (λ i below. refl) same)

    -- rewritten up to its end, the list is the new one
    pub partly-all : (place : ℕ) → length old ≤ place → partly place new old ≡ new
    partly-all place le =
        partly-done place (λ i past. get_or-eq_default new d (omega arith) ∙ sym (get_or-eq_default old d (omega arith)))

-- what stands at a place within a mapped list, whatever stands past the ends
pub get_d_map : {A B : Type 0} (f : A → B) (list : List A) (place : ℕ) (d : A) (e : B) → place < length list
    → get_or (map f list) place e ≡ f (get_or list place d)
get_d_map f [] place d e inside = absurd (omega arith)
get_d_map f (one ∷ list) zero d e inside = refl
get_d_map f (one ∷ list) (suc place) d e inside = get_d_map f list place d e (omega arith)

-- a function of each element of a table
pub map_tab : {A B : Type 0} (g : A → B) (n : ℕ) (f : ℕ → A) → map g (tab n f) ≡ tab n (λ i. g (f i))
unfolding tab
map_tab g zero f = refl
map_tab {B = B} g (suc n) f = ap (λ (rest : List B). g (f 0) ∷ rest) (map_tab g n (λ i. f (suc i)))
