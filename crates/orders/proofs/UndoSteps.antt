-- One take of the undo: when it may happen, and what it changes, entry by entry and cell by cell.
use Prim.Native.Nat.{ℕ, ◌-◌, ◌≤◌, ◌<◌}
use mathlib.Core.Path.{◌≡◌, refl, sym, ap, ◌∙◌, subst₂}
use mathlib.Core.Bool.{Bool, true, false, cond, not, ◌&&◌, true≢false, false≢true}
use mathlib.Core.Logic.{◌⊎◌, inl, inr, ⊎_elim, by_cases, ◌≢◌}
use mathlib.Core.List.{List}
use native.Mathlib.Decide.{ℕ_discrete, dec_lt}
use native.Mathlib.Omega.{arith}
use lib.ListN.{length, get_or, length-set, get_or-eq_default}
use lib.Seq.{get_or-set_same, get_or-set_other}
use lib.Dec.{eqb}
use borrow.Author.Tests.{eqb-true, eqb-false, eq-eqb, ne_eqb, ltb-true, lt-ltb, not-true}
use Rattle.sizes.specs.Sizes.{thread_count}
use Rattle.answer.specs.Lists.{some_below}
use Rattle.answer.proofs.BelowLaws.{some_below-found, found-some_below}
use Rattle.image.specs.Stored.{StoredLog, stored_log, entry_kind, entry_place, entry_value}
use Rattle.undoing.specs.Undo.{Undo, left_of, has_later_acquire, may_take_entry, may_take, take_last}
use Rattle.orders.proofs.Timed.{Remains, Handed, Partway}

-- the index of a thread's last entry left
abbrev pub last_of : List ℕ → ℕ → ℕ
last_of left thread = left_of left thread - 1

-- where four threads have entries left, one that has an entry left is one of the four
pub thread_below : (left : List ℕ) (thread index : ℕ) → length left ≡ thread_count → index < left_of left thread → thread < thread_count
thread_below left thread index threads is_left =
    by_cases
    (dec_lt thread thread_count)
    (λ below. below)
    (λ over. absurd (omega (arith, get_or-eq_default left 0 {n = thread} (omega arith))))

-- an entry stays what it is where other counts of entries are left, as long as it is left
pub moved : {logs : List StoredLog} {first second : List ℕ} {thread index kind place value : ℕ} →
    Remains logs first thread index kind place value → index < left_of second thread →
    Remains logs second thread index kind place value
moved entry is_left = record { is_left = is_left; is_kind = entry.is_kind; is_place = entry.is_place; is_value = entry.is_value }

pub handed_moved : {logs : List StoredLog} {first second : List ℕ} {giver given taker taken : ℕ} →
    Handed logs first giver given taker taken → given < left_of second giver → taken < left_of second taker →
    Handed logs second giver given taker taken
handed_moved pair release_left acquire_left = record {
  lock = pair.lock;
  count = pair.count;
  later = pair.later;
  release = moved pair.release release_left;
  acquire = moved pair.acquire acquire_left;
  larger = pair.larger;
}

-- tests that are joined, and what each of them then says
pub all_hold : {a b c : Bool} → a ≡ true → b ≡ true → c ≡ true → (a && b && c) ≡ true
all_hold first second third = rw (first, second, third)

pub each_holds : (a b c : Bool) → (a && b && c) ≡ true → (a ≡ true) × (b ≡ true) × (c ≡ true)
each_holds true true true all = (refl, refl, refl)
each_holds true true false all = absurd (false≢true all)
each_holds true false c all = absurd (false≢true all)
each_holds false b c all = absurd (false≢true all)

guarded : (b x : Bool) → cond b false x ≡ true → (b ≡ false) × (x ≡ true)
guarded true x holds = absurd (false≢true holds)
guarded false x holds = (refl, holds)

chosen : (b x : Bool) → cond b (not x) true ≡ true → b ≡ true → x ≡ false
chosen true x holds test = not-true x holds
chosen false x holds test = absurd (false≢true test)

choose : (b x : Bool) → (b ≡ true → x ≡ false) → cond b (not x) true ≡ true
choose true x follows = rw (follows refl)
choose false x follows = refl

-- a test that can't hold fails
pub fails : (b : Bool) → (b ≡ true → ⊥) → b ≡ false
fails true never = absurd (never refl)
fails false never = refl

-- what lets a thread's last entry be taken: it is no RELEASE before an ACQUIRE that is left
pub record Takeable (logs : List StoredLog) (left : List ℕ) (thread : ℕ) : Type 0 where
  pub has_entry : 0 < left_of left thread
  pub free : (taker taken : ℕ) → Handed logs left thread (last_of left thread) taker taken → ⊥

-- an ACQUIRE of the lock with a larger count is left in some log
waits : List StoredLog → List ℕ → ℕ → ℕ → Bool
waits logs left lock count = some_below thread_count (λ thread. has_later_acquire (stored_log logs thread) (left_of left thread) lock count)

module _ (logs : List StoredLog) (left : List ℕ) (threads : length left ≡ thread_count) where
  -- where a RELEASE waits there is an ACQUIRE that it waits for, and where there is one it waits
  waits-handed : (giver given : ℕ) → given < left_of left giver → entry_kind (stored_log logs giver) given ≡ 3 →
      waits logs left (entry_place (stored_log logs giver) given) (entry_value (stored_log logs giver) given) ≡ true →
      (taker : ℕ) × (taken : ℕ) × Handed logs left giver given taker taken
  unfolding waits has_later_acquire
  waits-handed giver given is_left is_kind holds =
      let log = some_below-found thread_count _ holds in
      let entry = some_below-found (left_of left log.number) _ log.holds in
      let says = each_holds _ _ _ entry.holds in (
        log.number,
        entry.number,
        record {
          lock = entry_place (stored_log logs giver) given;
          count = entry_value (stored_log logs giver) given;
          later = entry_value (stored_log logs log.number) entry.number;
          release = record { is_left = is_left; is_kind = is_kind; is_place = refl; is_value = refl };
          acquire = record { is_left = entry.below; is_kind = eqb-true _ _ says.0; is_place = eqb-true _ _ says.1; is_value = refl };
          larger = ltb-true _ _ says.2;
        },
      )

  handed-waits : (giver given taker taken : ℕ) → Handed logs left giver given taker taken →
      waits logs left (entry_place (stored_log logs giver) given) (entry_value (stored_log logs giver) given) ≡ true
  unfolding waits has_later_acquire
  handed-waits giver given taker taken pair =
      found-some_below
      thread_count
      _
      taker
      (thread_below left taker taken threads pair.acquire.is_left)
      (found-some_below
      (left_of left taker)
      _
      taken
      pair.acquire.is_left
      (all_hold
      (eq-eqb _ _ pair.acquire.is_kind)
      (eq-eqb _ _ (pair.acquire.is_place ∙ sym pair.release.is_place))
      (lt-ltb (entry_value (stored_log logs giver) given) (entry_value (stored_log logs taker) taken) (omega arith))))

  -- the test of a last entry says what lets it be taken, and the other way
  pub may_take-takeable : (thread : ℕ) → may_take logs left thread ≡ true → Takeable logs left thread
  unfolding may_take may_take_entry waits
  may_take-takeable thread may =
      let parts = guarded (eqb (left_of left thread) 0) _ may in
      record {
        has_entry = omega (arith, eqb-false (left_of left thread) 0 parts.0);
        free = λ taker taken pair.
            true≢false
            (sym (handed-waits thread (last_of left thread) taker taken pair)
            ∙ chosen _ _ parts.1 (eq-eqb _ _ pair.release.is_kind));
      }

  not-waiting : (thread : ℕ) → Takeable logs left thread → entry_kind (stored_log logs thread) (last_of left thread) ≡ 3 →
      waits logs left (entry_place (stored_log logs thread) (last_of left thread))
      (entry_value (stored_log logs thread) (last_of left thread)) ≡ true →
      ⊥
  not-waiting thread takeable is_release waiting =
      let found = waits-handed thread (last_of left thread) (omega arith) is_release waiting in
      takeable.free found.0 found.1 found.2

  pub takeable-may_take : (thread : ℕ) → Takeable logs left thread → may_take logs left thread ≡ true
  unfolding may_take may_take_entry waits
  takeable-may_take thread takeable =
      rw
      (ne_eqb (left_of left thread) 0 (omega arith))
      (choose _ _ (λ is_release. fails _ (not-waiting thread takeable (eqb-true _ _ is_release))))

-- what a thread's last entry left says
abbrev pub Last : List StoredLog → Undo → ℕ → ℕ → ℕ → ℕ → Type 0
Last logs undo thread kind place value = Remains logs undo.left thread (last_of undo.left thread) kind place value

pub last_says : (logs : List StoredLog) (undo : Undo) (thread kind place : ℕ) → 0 < left_of undo.left thread →
    entry_kind (stored_log logs thread) (last_of undo.left thread) ≡ kind →
    entry_place (stored_log logs thread) (last_of undo.left thread) ≡ place →
    Last logs undo thread kind place (entry_value (stored_log logs thread) (last_of undo.left thread))
last_says logs undo thread kind place has_entry is_kind is_place =
    record { is_left = omega arith; is_kind = is_kind; is_place = is_place; is_value = refl }

-- what an undo is after the last entry of a thread is taken: that entry is gone, and a STORE's value is written back
pub record Taken (logs : List StoredLog) (undo : Undo) (thread : ℕ) (after : Undo) : Type 0 where
  pub threads : length after.left ≡ thread_count
  pub fewer : left_of after.left thread ≡ last_of undo.left thread
  pub others : (other : ℕ) → other ≢ thread → left_of after.left other ≡ left_of undo.left other
  pub cells_length : length after.cells ≡ length undo.cells
  pub put : (cell value : ℕ) → cell < length undo.cells → Last logs undo thread 1 cell value → get_or after.cells cell 0 ≡ value
  pub kept : (cell : ℕ) → ((value : ℕ) → Last logs undo thread 1 cell value → ⊥) → get_or after.cells cell 0 ≡ get_or undo.cells cell 0

pub take_last-taken : (logs : List StoredLog) (undo : Undo) (thread : ℕ) → length undo.left ≡ thread_count →
    0 < left_of undo.left thread → Taken logs undo thread (take_last logs undo thread)
unfolding take_last
take_last-taken logs undo thread threads has_entry = record {
  threads = simp length-set threads;
  fewer = get_or-set_same undo.left thread _ 0 (rw threads (thread_below undo.left thread 0 threads has_entry));
  others = λ other differs. get_or-set_other undo.left thread other _ 0 differs;
  cells_length =
      by_cases
      (ℕ_discrete (entry_kind (stored_log logs thread) (last_of undo.left thread)) 1)
      (λ is_store. rw (eq-eqb _ _ is_store, length-set))
      (λ is_other. rw (ne_eqb _ _ is_other));
  put = λ cell value in_range store. rw (eq-eqb _ _ store.is_kind, store.is_place, store.is_value, get_or-set_same);
  kept = λ cell no_store.
      by_cases
      (ℕ_discrete (entry_kind (stored_log logs thread) (last_of undo.left thread)) 1)
      (λ is_store. rw (eq-eqb _ _ is_store)
      (get_or-set_other undo.cells _ cell _ 0 (λ is_cell. no_store _ (last_says logs undo thread 1 cell has_entry is_store (sym is_cell)))))
      (λ is_other. rw (ne_eqb _ _ is_other));
}

module _ (logs : List StoredLog) (undo : Undo) (thread : ℕ) (after : Undo) (take : Taken logs undo thread after) where
  -- no thread has more entries left than before
  pub taken-within : (other : ℕ) → left_of after.left other ≤ left_of undo.left other
  taken-within other =
      by_cases
      (ℕ_discrete other thread)
      (λ same. rw same (omega arith))
      (λ differs. omega (arith, take.others other differs))

  -- so an undo stays one that has no more entries left than are present
  pub take-partway : (present : List ℕ) → Partway present undo → Partway present after
  take-partway present partway =
      record { threads = take.threads; within = λ other. omega (arith, partway.within other, taken-within other) }

  -- an entry that was left is left, or is the one taken
  pub left-or-last : (other index : ℕ) → index < left_of undo.left other →
      (index < left_of after.left other) ⊎ ((other ≡ thread) × (index ≡ last_of undo.left thread))
  left-or-last other index is_left =
      by_cases
      (ℕ_discrete other thread)
      (λ same. by_cases (dec_lt index (left_of after.left other)) inl (λ gone. inr (same, is_last same gone)))
      (λ differs. inl (omega (arith, take.others other differs)))
    where
      is_last : other ≡ thread → ¬ (index < left_of after.left other) → index ≡ last_of undo.left thread
      is_last same gone = omega (arith, ap (left_of undo.left) same, ap (left_of after.left) same)

  -- an entry that was left, with what it says, is left, or is the one taken
  pub remains-or-last : {other index kind place value : ℕ} → Remains logs undo.left other index kind place value →
      Remains logs after.left other index kind place value ⊎ Last logs undo thread kind place value
  remains-or-last {other} {index} {kind} {place} {value} entry =
      ⊎_elim
      (λ still. inl (moved entry still))
      (λ last. inr (subst₂ (λ t i. Remains logs undo.left t i kind place value) last.0 last.1 entry))
      (left-or-last other index entry.is_left)
