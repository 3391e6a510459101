-- What is claimed of the checker, in the words of orders by places: which lists it accepts, that there is one wherever recovery accepts,
-- and what is so of the place that it gives. What an accepted list undoes to is claimed where machines are (`atomicity/specs/Undoes.antt`).
use Rattle.std.specs.Prelude.{Ok}
use Rattle.std.specs.Prelude.{ℕ, ◌≤◌, ◌<◌, ◌≡◌, true, false, List, [], ◌∷◌, length, take}
use Rattle.answer.specs.Refusals.{first_refusal}
use Rattle.image.specs.Stored.{StoredLog, stored_logs, present_entries}
use Rattle.recovery.specs.Recover.{recover_of}
use Rattle.orders.specs.Orders.{Name, name_at, IsOrder}
use Rattle.pair.specs.Pair.{may_take_name}
use Rattle.order.specs.Check.{pairs_of, left_without, some_left, accepted, not_an_order, most_words, check_tests, check_of}

-- "It accepts exactly the lists that name each present entry once and keep L8's order."
pub record AcceptsOrders (image words : List ℕ) : Type 0 where
  pub is_order : (check_of image words).answer ≡ Ok 0 → IsOrder image (pairs_of words)
  -- where neither the image nor the list is refused
  pub is_accepted : first_refusal (check_tests image words) ≡ Ok 0 → IsOrder image (pairs_of words) → check_of image words ≡ accepted

abbrev pub Accepts : Type 0
Accepts = (image words : List ℕ) → AcceptsOrders image words

-- "Every image recovery accepts has a list that the checker accepts."
abbrev pub HasAList : Type 0
HasAList =
    (image buffer : List ℕ) → (recover_of image buffer).answer ≡ Ok 0 →
    (words : List ℕ) × (length words ≤ most_words) × (check_of image words ≡ accepted)

-- how many entries each thread has left once those of a list are taken
unfoldable pub left_after : List ℕ → List Name → List ℕ
left_after left [] = left
left_after left (entry ∷ order) = left_after (left_without left entry) order

-- "the place, from 0, of its first bad pair, or the count of pairs where entries are missing"
pub record FirstBadAt (logs : List StoredLog) (left : List ℕ) (order : List Name) (place : ℕ) : Type 0 where
  pub within : place ≤ length order
  -- each pair before it may be taken, those before that one being taken
  pub before : (i : ℕ) → i < place → may_take_name logs (left_after left (take i order)) (name_at order i) ≡ true
  -- the pair at the place, where there is one, may not
  pub bad : place < length order → may_take_name logs (left_after left (take place order)) (name_at order place) ≡ false
  -- where there is none, entries are left
  pub missing : place ≡ length order → some_left (left_after left order) ≡ true

abbrev pub FirstBad : Type 0
FirstBad =
    (image words : List ℕ) (place : ℕ) → check_of image words ≡ not_an_order place →
    FirstBadAt (stored_logs image) (present_entries image) (pairs_of words) place
