-- An append as the thread's record sees it: its tests, 6 and then 5, and the record after it. Knows nothing of what the entry says.
use Rattle.std.specs.Prelude.{None, Option, Some, Result, Ok, Err}
use Rattle.std.specs.Prelude.{ℕ, ◌+◌, ◌-◌, List, [], ◌∷◌, leb}
use Rattle.answer.specs.Answer.{Answer}
use Rattle.answer.specs.Refusals.{Test, ◌⇒◌, unless}
use Rattle.answer.specs.declared.Refusal.{Refusal}
use Rattle.answer.specs.declared.Refusal.TheVariants.{LogFull, LsnsUsedUp}
use Rattle.ring.specs.Ring.{slot_count, last_lsn, lsn}
use Rattle.tail.specs.declared.Tail.{Tail}

-- what an append answers, beside the record after it
pub record Grown : Type 0 where
  pub answer : Answer
  pub tail : Tail

-- the lock that the thread is closing on after an entry: a RELEASE names it, and the other kinds change nothing of that
abbrev pub closed_by : Option ℕ → Option ℕ → Option ℕ
closed_by before None = before
closed_by before (Some lock) = Some lock

-- the record after one entry more
unfoldable pub grown_tail : Tail → Option ℕ → Tail
grown_tail tail closes = record {
  next = lsn (tail.next.0 + 1);
  durable = tail.durable;
  flushed = tail.flushed;
  releasing = closed_by tail.releasing closes;
}

-- "6: rank 1,000,000 is given", then "5: 64 live entries"
unfoldable pub room_tests : Tail → ℕ → List Test
room_tests tail head =
    (leb (last_lsn + 1) tail.next.0 ⇒ LsnsUsedUp) ∷ (leb slot_count (tail.next.0 - head) ⇒ LogFull) ∷ []

-- an append as the thread's record sees it: the new rank and the record after it, or a refusal and the record as it was
unfoldable pub grow_of : Tail → ℕ → Option ℕ → Grown
grow_of tail head closes =
    unless
    (λ answer. record { answer = answer; tail = tail })
    (room_tests tail head)
    (record { answer = Ok tail.next.0; tail = grown_tail tail closes })

-- the answer to a new record or a refusal, beside the record that stands then
abbrev pub grown_by : Tail → Result Tail Refusal → Grown
grown_by before (Ok after) = record { answer = Ok before.next.0; tail = after }
grown_by before (Err refusal) = record { answer = Err refusal; tail = before }
