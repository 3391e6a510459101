-- Marking a claimed undo order. Document 02: "Add a checker for an image and a list of at most 256 pairs, thread and rank, as words."
use Rattle.std.specs.Prelude.{ℕ, suc, ◌-◌, ◌%◌, Bool, cond, ◌||◌, List, [], ◌∷◌, ◌++◌, length, set, eqb, ltb, Ok, Err, Option, None, Some}
use Rattle.sizes.specs.Sizes.{thread_count}
use Rattle.answer.specs.Lists.{some_below}
use Rattle.answer.specs.Refusals.{Test, ◌⇒◌, unless}
use Rattle.answer.specs.Answer.{Answer}
use Rattle.answer.specs.declared.Refusal.TheVariants.{NotPairs, NotAnOrder}
use Rattle.image.specs.Stored.{StoredLog, stored_logs, present_entries}
use Rattle.image.specs.Tests.{image_tests}
use Rattle.undoing.specs.Undo.{left_of}
use Rattle.orders.specs.Orders.{Name, name}
use Rattle.pair.specs.Pair.{may_take_name}
use Rattle.order.specs.declared.Checked.{Checked}

-- "pairs, thread and rank, as words": the entries that a list names. A last word alone names none, and its list is refused with 26
unfoldable pub pairs_of : List ℕ → List Name
pairs_of [] = []
pairs_of (thread ∷ []) = []
pairs_of (thread ∷ lsn ∷ words) = name thread lsn ∷ pairs_of words

-- how many entries each thread has left once this one is taken
abbrev pub left_without : List ℕ → Name → List ℕ
left_without left entry = set left entry.thread (left_of left entry.thread - 1)

-- some thread has entries left
abbrev pub some_left : List ℕ → Bool
some_left left = some_below thread_count (λ thread. ltb 0 (left_of left thread))

-- "A pair is bad if, the pairs before it being taken, its entry" may not be: "the place .. of its first bad pair, or the count of pairs
-- where entries are missing", and none where neither is so. The first of these pairs has this place
unfoldable pub bad_place : List StoredLog → List ℕ → ℕ → List Name → Option ℕ
bad_place logs left place [] = cond (some_left left) (Some place) None
bad_place logs left place (entry ∷ order) =
    cond (may_take_name logs left entry) (bad_place logs (left_without left entry) (suc place) order) (Some place)

-- an image or a list that can't be used has no bad pair, and 0 for its place
abbrev pub refused : Answer → Checked
refused answer = record { answer = answer; place = 0 }

-- "an accepted one with 0"
abbrev pub accepted : Checked
accepted = record { answer = Ok 0; place = 0 }

-- "A refused list is answered with the place, from 0"; "27: the list is not such an order"
abbrev pub not_an_order : ℕ → Checked
not_an_order place = record { answer = Err NotAnOrder; place = place }

-- what a list is answered by the place that it has, or by having none
abbrev pub marked_by : Option ℕ → Checked
marked_by None = accepted
marked_by (Some place) = not_an_order place

-- "at most 256 pairs", two words each
abbrev pub most_words : ℕ
most_words = 512

-- "26: over 512 words or an odd number"
unfoldable pub are_not_pairs : ℕ → Bool
are_not_pairs count = ltb most_words count || eqb (count % 2) 1

-- "The image is tested first, by recovery's refusals 21 to 23", and 26 "tested next"
unfoldable pub check_tests : List ℕ → List ℕ → List Test
check_tests image words = image_tests image ++ ((are_not_pairs (length words) ⇒ NotPairs) ∷ [])

-- from 0 on, with all present entries left
unfoldable pub check_of : List ℕ → List ℕ → Checked
check_of image words =
    unless refused (check_tests image words) (marked_by (bad_place (stored_logs image) (present_entries image) 0 (pairs_of words)))
