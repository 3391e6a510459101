-- The loop of turns: each takes one entry, and what is left to do from where it stands leads to the whole undo.
use Prim.Native.Nat.{ℕ, ◌+◌, ◌-◌, ◌≤◌, ◌<◌}
use mathlib.Core.Path.{◌≡◌, sym, ap, ap₂, ◌∙◌}
use mathlib.Core.Bool.{Bool, true, false, not, cond}
use mathlib.Core.List.{List}
use mathlib.Core.Logic.{by_cases}
use native.Mathlib.Decide.{ℕ_discrete}
use native.Mathlib.Omega.{arith}
use lib.ListN.{length, set, take, length-set}
use lib.Seq.{get_or-set_same, get_or-set_other}
use lib.Dec.{eqb}
use borrow.Author.Tests.{eq-eqb, ne_eqb}
use Rattle.sizes.specs.Sizes.{thread_count}
use Rattle.reader.specs.Stretch.{heads_at}
use Rattle.event.specs.declared.SyncCount.{SyncCount}
use Rattle.image.specs.Stored.{stored_logs, present_in, present_entries}
use Rattle.image.specs.Reading.{log_in, entry_in, Good, Readable}
use Rattle.image.specs.declared.Entry.{Entry}
use Rattle.image.proofs.LogsRead.{counts-long, count-present}
use Rattle.image.proofs.GoodEntries.{present_good, good-release}
use Rattle.undoing.specs.Undo.{Undo, left_of, may_take, take_last, take_many, undo_start, undone}
use Rattle.undoing.specs.Latest.{lock_of, row_of, earlier_of, may_take_last, IsLowest, Remembers, Tracked}
use Rattle.undoing.proofs.LatestLaws.{waits-for-latest, remember-fewer}
use Rattle.undoing.proofs.UndoLaws.{may-take-nothing, may-take-other, may-take-release, may-take-has}
use Rattle.undoing.proofs.UndoLaws.{lowest-none, lowest-found, take-nothing, take-one}

-- the last entry that a thread has left may be taken, by what is remembered, just when the undo order says so
module _ {image left : List ℕ} {latest : List (List SyncCount)} {earlier : List SyncCount}
    (at : Tracked image left latest earlier) (thread : ℕ) (inside : thread < thread_count) where
  abbrev last : Entry
  last = entry_in (log_in image thread) (left_of left thread - 1)

  taken-good : (left_of left thread ≡ 0 → ⊥) → Good last
  taken-good has =
      present_good (log_in image thread) (at.readable.good thread inside) (left_of left thread - 1)
      (omega (arith, at.within thread inside, has))

  pub may-last : may_take_last (log_in image thread) (left_of left thread) latest ≡ may_take (stored_logs image) left thread
  unfolding may_take_last
  may-last =
      by_cases (ℕ_discrete (left_of left thread) 0)
      (λ nothing. rw (eq-eqb (left_of left thread) 0 nothing) (sym (may-take-nothing (stored_logs image) left thread nothing)))
      (λ has.
      rw (ne_eqb (left_of left thread) 0 has)
      (by_cases (ℕ_discrete last.kind 3)
      (λ release.
      let locked = good-release last (taken-good has) release in
      let own : lock_of last.place ≡ last.place = omega (arith, locked) in
      rw (eq-eqb last.kind 3 release, own)
      (ap not (waits-for-latest at.remembers last.place last.value locked)
      ∙ sym (may-take-release (stored_logs image) left thread has release)))
      (λ other. rw (ne_eqb last.kind 3 other) (sym (may-take-other (stored_logs image) left thread has other)))))

-- the counts and the cells so far
abbrev pub state : List ℕ → List ℕ → Undo
state left cells = record { left = left; cells = cells }

-- a loop of 256 turns stands before this one
pub record Midway (image left : List ℕ) (latest : List (List SyncCount)) (earlier : List SyncCount) (cells : List ℕ) (turn : ℕ) : Type 0 where
  pub threads : length left ≡ thread_count
  pub tracked : Tracked image left latest earlier
  pub leads : take_many (256 - turn) (stored_logs image) (state left cells) ≡ undone image

pub turns-start : {image left cells : List ℕ} {latest : List (List SyncCount)} {earlier : List SyncCount} → Readable image →
    left ≡ present_entries image →
    Remembers image (left_of left) latest earlier → cells ≡ take heads_at image → Midway image left latest earlier cells 0
unfolding undone undo_start
turns-start {image} {left} {cells} readable left_is remembers cells_is = record {
  threads = ap length left_is ∙ counts-long image;
  tracked = record {
    readable = readable;
    within = λ thread inside. omega (arith, ap (λ (counts : List ℕ). left_of counts thread) left_is ∙ count-present image thread inside);
    remembers = remembers;
  };
  leads = ap (take_many 256 (stored_logs image)) (ap₂ state left_is cells_is);
}

module _ {image left cells : List ℕ} {latest : List (List SyncCount)} {earlier : List SyncCount} {turn : ℕ}
    (at : Midway image left latest earlier cells turn) where
  -- all turns are over
  pub turns-end : 256 ≤ turn → state left cells ≡ undone image
  unfolding take_many
  turns-end past =
      let last_turn : 256 - turn ≡ 0 = omega arith in
      sym (ap (λ (count : ℕ). take_many count (stored_logs image) (state left cells)) last_turn) ∙ at.leads

  -- whether the code takes a thread's last entry
  abbrev pub may_by : ℕ → Bool
  may_by thread = may_take_last (log_in image thread) (left_of left thread) latest

  asks : (thread : ℕ) → thread < thread_count → may_take (stored_logs image) left thread ≡ may_by thread
  asks thread inside = sym (may-last at.tracked thread inside)

  -- where the last entry of no thread may be taken, the undo is done
  pub turns-stop : ((thread : ℕ) → thread < thread_count → may_by thread ≡ false) → state left cells ≡ undone image
  turns-stop none =
      let none-may : (thread : ℕ) → thread < thread_count → may_take (stored_logs image) left thread ≡ false =
      λ thread inside. asks thread inside ∙ none thread inside in
      sym (take-nothing (stored_logs image) (state left cells) (lowest-none (stored_logs image) left thread_count none-may) (256 - turn))
      ∙ at.leads

  -- this thread's last entry may be taken, and it is the lowest such thread
  module _ (thread : ℕ) (found : IsLowest may_by thread) where
    inside : thread < thread_count
    inside = found.inside

    may : may_take (stored_logs image) left thread ≡ true
    may = asks thread inside ∙ found.may_be

    none-lower : (lower : ℕ) → lower < thread → may_take (stored_logs image) left lower ≡ false
    none-lower lower below = asks lower (omega (arith, inside, below)) ∙ found.lower lower below

    pub turn-few : left_of left thread ≤ 64
    turn-few = at.tracked.remembers.few thread inside

    has : left_of left thread ≡ 0 → ⊥
    has = may-take-has (stored_logs image) left thread may

    pub turn-has : 1 ≤ left_of left thread
    turn-has = omega (arith, has)

    -- the thread's last entry, and what is left without it
    abbrev index : ℕ
    index = left_of left thread - 1

    abbrev taken : Entry
    taken = entry_in (log_in image thread) index

    abbrev fewer : List ℕ
    fewer = set left thread index

    pub turn-good : Good taken
    turn-good = taken-good at.tracked thread inside has

    one_fewer : left_of fewer thread ≡ index
    one_fewer = get_or-set_same left thread index 0 (omega (arith, inside, at.threads))

    others-stay : (other : ℕ) → (other ≡ thread → ⊥) → left_of fewer other ≡ left_of left other
    others-stay other another = get_or-set_other left thread other index 0 another

    fewer-within : (other : ℕ) → other < thread_count → left_of fewer other ≤ present_in (log_in image other)
    fewer-within other below =
        by_cases (ℕ_discrete other thread)
        (λ same. rw same (omega (arith, at.tracked.within thread inside, one_fewer)))
        (λ another. rw (others-stay other another) (at.tracked.within other below))

    -- one entry is taken
    pub turns-on : turn < 256 → {last : Entry} → last ≡ taken → Midway image fewer
        (set latest (lock_of last.place) (set (row_of latest (lock_of last.place)) thread (earlier_of earlier thread index)))
        earlier
        (cond (eqb last.kind 1) (set cells last.place last.value) cells)
        (turn + 1)
    unfolding take_last
    turns-on more is = rw is (record {
      threads = length-set left thread index ∙ at.threads;
      tracked = record {
        readable = at.tracked.readable;
        within = fewer-within;
        remembers =
            remember-fewer at.tracked.remembers thread inside turn-has turn-good (left_of fewer) one_fewer
            (λ other below. others-stay other);
      };
      leads =
          sym
          (take-one (stored_logs image) (state left cells) thread turn 256 more
          (lowest-found (stored_logs image) left thread_count thread inside may none-lower))
          ∙ at.leads;
    })
