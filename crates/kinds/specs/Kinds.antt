-- The kinds of step by document 01's and document 02's numbers, which fields each uses, and the refusals because of the input.
use Rattle.std.specs.Prelude.{ℕ, ◌<◌, ◌≤◌, ◌≡◌, Bool, false, cond, not, ◌||◌, List, [], ◌∷◌, ◌++◌, eqb, ltb, Option, None, Some, Result, Ok, Err}
use Rattle.sizes.specs.Sizes.{thread_count, lock_count, entry_words}
use Rattle.answer.specs.Refusals.{Test, ◌⇒◌, first_refusal}
use Rattle.answer.specs.Answer.{Answer}
use Rattle.answer.specs.declared.Refusal.{Refusal}
use Rattle.answer.specs.declared.Refusal.TheVariants.{NoSuchKind, NoSuchThread, NoSuchPlace, UnusedField, NoSuchWordCount}
use Rattle.cache.specs.Cache.{cell_count, line_count}
use Rattle.ring.specs.Ring.{slot_count}
use Rattle.kinds.specs.declared.Kind.{Kind}
use Rattle.kinds.specs.declared.Kind.TheVariants.{Load as LOAD, Log as LOG, Store as STORE, Acquire as ACQUIRE, LogRel as LOGREL}
use Rattle.kinds.specs.declared.Kind.TheVariants.{Release as RELEASE, Flush as FLUSH, FlushLog as FLUSHLOG, Fence as FENCE}
use Rattle.kinds.specs.declared.Kind.TheVariants.{Prune as PRUNE, EvictLog as EVICTLOG, EvictCell as EVICTCELL}
use Rattle.kinds.specs.declared.Kind.TheVariants.{EvictWords as EVICTWORDS}

-- the kind of a number: none is "1: kind not 1 to 12", which "now begins at 15" and "now covers 11 too" (document 02)
unfoldable pub kind_of : ℕ → Option Kind
kind_of number =
    cond (eqb number 1) (Some LOAD)
    (cond (eqb number 2) (Some LOG)
    (cond (eqb number 3) (Some STORE)
    (cond (eqb number 4) (Some ACQUIRE)
    (cond (eqb number 5) (Some LOGREL)
    (cond (eqb number 6) (Some RELEASE)
    (cond (eqb number 7) (Some FLUSH)
    (cond (eqb number 8) (Some FLUSHLOG)
    (cond (eqb number 9) (Some FENCE)
    (cond (eqb number 10) (Some PRUNE)
    (cond (eqb number 12) (Some EVICTLOG)
    (cond (eqb number 13) (Some EVICTCELL)
    (cond (eqb number 14) (Some EVICTWORDS) None))))))))))))

-- the kind that was found, or test 1's refusal
abbrev pub found : Option Kind → Result Kind Refusal
found None = Err NoSuchKind
found (Some kind) = Ok kind

-- how a kind uses a field: as a number below a bound, as a count from 1 to a bound, as any number, or not at all
pub data Field : Type 0 where
  below : ℕ → Field
  counted : ℕ → Field
  free : Field
  unused : Field

-- the fields of a kind
pub record Fields : Type 0 where
  pub thread : Field
  pub place : Field
  pub value : Field

abbrev pub fields : Field → Field → Field → Fields
fields thread place value = record { thread = thread; place = place; value = value }

-- "Unused fields are 0: value in all but STORE, place in 8, 9 and 10". Document 02: "step 13 uses 2, 3 and 4, its thread unused; step 14
-- uses 3 for its slot, then new 19". The thread of every kind has its bound from test 2.
abbrev pub fields_of : Kind → Fields
fields_of LOAD = fields free (below cell_count) unused
fields_of LOG = fields free (below cell_count) unused
fields_of STORE = fields free (below cell_count) free
fields_of ACQUIRE = fields free (below lock_count) unused
fields_of LOGREL = fields free (below lock_count) unused
fields_of RELEASE = fields free (below lock_count) unused
fields_of FLUSH = fields free (below line_count) unused
fields_of FLUSHLOG = fields free unused unused
fields_of FENCE = fields free unused unused
fields_of PRUNE = fields free unused unused
fields_of EVICTLOG = fields free (below slot_count) unused
fields_of EVICTCELL = fields unused (below cell_count) unused
fields_of EVICTWORDS = fields free (below slot_count) (counted entry_words)

-- the field is used and out of range
abbrev pub is_over : Field → ℕ → Bool
is_over (below bound) word = not (ltb word bound)
is_over (counted most) word = false
is_over free word = false
is_over unused word = false

-- the field is unused and not 0
abbrev pub is_left_over : Field → ℕ → Bool
is_left_over (below bound) word = false
is_left_over (counted most) word = false
is_left_over free word = false
is_left_over unused word = not (eqb word 0)

-- "2: thread over 3. 3: place over 127 (LOAD, LOG, STORE), 7 (locks), 15 (lines) or 63 (EVICTLOG). 4: an unused field not 0."
abbrev pub field_tests : ℕ → Bool → Bool → List Test
field_tests thread over left = (not (ltb thread thread_count) ⇒ NoSuchThread) ∷ (over ⇒ NoSuchPlace) ∷ (left ⇒ UnusedField) ∷ []

-- "19: its value not 1 to 4", asked of a field that counts and of no other
abbrev pub count_tests : Field → ℕ → List Test
count_tests (below bound) word = []
count_tests (counted most) word = (eqb word 0 || ltb most word ⇒ NoSuchWordCount) ∷ []
count_tests free word = []
count_tests unused word = []

unfoldable pub input_tests : Kind → ℕ → ℕ → ℕ → List Test
input_tests kind thread place value =
    field_tests
    thread
    (is_over (fields_of kind).place place)
    (is_left_over (fields_of kind).thread thread || is_left_over (fields_of kind).place place || is_left_over (fields_of kind).value value)
    ++ count_tests (fields_of kind).value value

-- the first refusal because of the input, or acceptance
abbrev pub input_answer : Option Kind → ℕ → ℕ → ℕ → Answer
input_answer None thread place value = Err NoSuchKind
input_answer (Some kind) thread place value = first_refusal (input_tests kind thread place value)

-- the field is used within its bounds, or is 0 where it is unused
abbrev pub FieldFits : Field → ℕ → Type 0
FieldFits (below bound) word = word < bound
FieldFits (counted most) word = (1 ≤ word) × (word ≤ most)
FieldFits free word = Unit {0}
FieldFits unused word = word ≡ 0

-- what an accepted input's fields are
pub record InputFits (kind : Kind) (thread place value : ℕ) : Type 0 where
  pub is_thread : thread < thread_count
  pub thread_fits : FieldFits (fields_of kind).thread thread
  pub place_fits : FieldFits (fields_of kind).place place
  pub value_fits : FieldFits (fields_of kind).value value
