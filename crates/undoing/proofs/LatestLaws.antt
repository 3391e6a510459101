-- The latest ACQUIREs of so many entries of each log: a RELEASE waits for one of them if it waits for any, and one entry more or fewer
-- changes one of them at most.
use Prim.Native.Nat.{ℕ, zero, suc, ◌+◌, ◌-◌, ◌*◌, ◌≤◌, ◌<◌}
use mathlib.Core.Path.{◌≡◌, sym, ap, ap₂, ◌∙◌}
use mathlib.Core.Bool.{Bool, true, false, cond, ◌&&◌, ◌||◌}
use mathlib.Core.Logic.{by_cases}
use mathlib.Core.List.{List, []}
use native.Mathlib.Decide.{dec_lt, ℕ_discrete}
use native.Mathlib.Omega.{arith}
use borrow.Author.Tests.{lt-ltb, le-ltb, eq-eqb, ne_eqb}
use lib.ListN.{length, set, length-set}
use lib.Dec.{eqb, ltb}
use lib.Seq.{get_or-set_same, get_or-set_other}
use Rattle.sizes.specs.Sizes.{thread_count, lock_count}
use Rattle.answer.specs.Lists.{some_below}
use Rattle.answer.proofs.Searches.{search_same}
use Rattle.ring.specs.Ring.{slot_count}
use Rattle.event.specs.Events.{sync_count}
use Rattle.event.specs.declared.SyncCount.{SyncCount}
use Rattle.image.specs.Stored.{StoredLog, entry_kind, entry_place, entry_value}
use Rattle.image.specs.Reading.{log_in, entry_in, Good}
use Rattle.image.specs.declared.Entry.{Entry}
use Rattle.image.proofs.GoodEntries.{good-acquire}
use Rattle.undoing.specs.Undo.{has_later_acquire}
use Rattle.undoing.specs.Latest.{latest_acquire, lock_of, count_of, row_of, earlier_of, later_of, Remembers}

-- the larger of two counts is larger than a third where one of them is
larger : (count value earlier : ℕ) → (ltb count value || ltb count earlier) ≡ ltb count (cond (ltb earlier value) value earlier)
larger count value earlier =
    by_cases (dec_lt earlier value)
    (λ later. rw (lt-ltb earlier value later)
    (by_cases (dec_lt count value)
    (λ less. rw (lt-ltb count value less))
    (λ not-less. rw (le-ltb count value (omega arith), le-ltb count earlier (omega arith)))))
    (λ no-later. rw (le-ltb earlier value (omega arith))
    (by_cases (dec_lt count value)
    (λ less. rw (lt-ltb count value less, lt-ltb count earlier (omega arith)))
    (λ not-less. rw (le-ltb count value (omega arith)))))

-- a later ACQUIRE is left where the latest one is later
pub later_is-latest : (log : StoredLog) (left lock count : ℕ) →
    has_later_acquire log left lock count ≡ ltb count (latest_acquire log left lock)
unfolding has_later_acquire some_below latest_acquire
later_is-latest log zero lock count = sym (le-ltb count 0 (omega arith))
later_is-latest log (suc left) lock count =
    by-entry (eqb (entry_kind log left) 2) (eqb (entry_place log left) lock) (entry_value log left) (later_is-latest log left lock count)
  where
    by-entry : (acquire same : Bool) (value : ℕ) →
        has_later_acquire log left lock count ≡ ltb count (latest_acquire log left lock) →
        (acquire && same && ltb count value || has_later_acquire log left lock count) ≡
        ltb count (cond (acquire && same && ltb (latest_acquire log left lock) value) value (latest_acquire log left lock))
    by-entry true true value earlier = rw earlier (larger count value (latest_acquire log left lock))
    by-entry true false value earlier = earlier
    by-entry false same value earlier = earlier

-- an entry that is no ACQUIRE of the lock is none of its latest
latest-passes : (log : StoredLog) (left lock : ℕ) → (entry_kind log left ≡ 2 → entry_place log left ≡ lock → ⊥) →
    latest_acquire log (suc left) lock ≡ latest_acquire log left lock
unfolding latest_acquire
latest-passes log left lock other =
    by_cases (ℕ_discrete (entry_kind log left) 2)
    (λ acquire. rw (eq-eqb (entry_kind log left) 2 acquire, ne_eqb (entry_place log left) lock (other acquire)))
    (λ no-acquire. rw (ne_eqb (entry_kind log left) 2 no-acquire))

-- an entry of a lock leaves the latest ACQUIREs of the other locks as they are
latest-others : (log : StoredLog) (index lock : ℕ) → Good (entry_in log index) → lock < lock_count →
    (lock ≡ lock_of (entry_place log index) → ⊥) →
    latest_acquire log (suc index) lock ≡ latest_acquire log index lock
latest-others log index lock good inside other =
    latest-passes log index lock
    (λ acquire same. other (let below = good-acquire (entry_in log index) good acquire in omega (arith, below, same)))

-- the entry's own lock has the entry's count, where that is an ACQUIRE's and larger
latest_here : (log : StoredLog) (index : ℕ) (count : SyncCount) → Good (entry_in log index) →
    count.0 ≡ latest_acquire log index (lock_of (entry_place log index)) →
    (later_of count (entry_in log index)).0 ≡ latest_acquire log (suc index) (lock_of (entry_place log index))
unfolding latest_acquire
latest_here log index count good is =
    by_cases (ℕ_discrete (entry_kind log index) 2)
    (λ acquire.
    let below = good-acquire (entry_in log index) good acquire in
    let own : entry_place log index ≡ lock_of (entry_place log index) = omega (arith, below) in
    rw (eq-eqb (entry_kind log index) 2 acquire, eq-eqb (entry_place log index) (lock_of (entry_place log index)) own, is))
    (λ no-acquire. rw (ne_eqb (entry_kind log index) 2 no-acquire, is))

module _ {image : List ℕ} {seen : ℕ → ℕ} {latest : List (List SyncCount)} {earlier : List SyncCount} (old : Remembers image seen latest earlier) where
  -- a RELEASE waits for an ACQUIRE that is remembered, or for none
  pub waits-for-latest : (lock count : ℕ) → lock < lock_count →
      some_below thread_count (λ thread. ltb count (count_of (row_of latest lock) thread).0) ≡
      some_below thread_count (λ thread. has_later_acquire (log_in image thread) (seen thread) lock count)
  waits-for-latest lock count locked =
      search_same thread_count _ _
      (λ thread inside.
      ap (ltb count) (old.latest_is thread lock inside locked) ∙ sym (later_is-latest (log_in image thread) (seen thread) lock count))

  -- one thread's count of one lock is another, for another number of that thread's entries
  module _ (thread lock : ℕ) (inside : thread < thread_count) (locked : lock < lock_count) (count : SyncCount) (next : ℕ → ℕ)
      (few_enough : next thread ≤ slot_count) (others : (other : ℕ) → other < thread_count → (other ≡ thread → ⊥) → next other ≡ seen other)
      (here : count.0 ≡ latest_acquire (log_in image thread) (next thread) lock)
      (elsewhere : (other : ℕ) → other < lock_count → (other ≡ lock → ⊥) →
      latest_acquire (log_in image thread) (seen thread) other ≡ latest_acquire (log_in image thread) (next thread) other) where
    abbrev row : List SyncCount
    row = set (row_of latest lock) thread count

    abbrev changed : List (List SyncCount)
    changed = set latest lock row

    row_here : row_of changed lock ≡ row
    row_here = get_or-set_same latest lock row [] (omega (arith, old.locks))

    row_other : (other : ℕ) → (other ≡ lock → ⊥) → row_of changed other ≡ row_of latest other
    row_other other differs = get_or-set_other latest lock other row [] differs

    same-thread : (t : ℕ) → t < thread_count → (t ≡ thread → ⊥) → (l : ℕ) →
        latest_acquire (log_in image t) (seen t) l ≡ latest_acquire (log_in image t) (next t) l
    same-thread t t-inside another l = ap (λ (number : ℕ). latest_acquire (log_in image t) number l) (sym (others t t-inside another))

    latest-stays : (t l : ℕ) → t < thread_count → l < lock_count →
        (count_of (row_of changed l) t).0 ≡ latest_acquire (log_in image t) (next t) l
    latest-stays t l t-inside l-locked =
        by_cases (ℕ_discrete l lock)
        (λ same-lock.
        by_cases (ℕ_discrete t thread)
        (λ same.
        rw (same-lock, same, row_here)
        (ap (λ (c : SyncCount). c.0) (get_or-set_same (row_of latest lock) thread count (sync_count 0) (omega (arith, old.rows lock locked))) ∙ here))
        (λ another.
        rw (same-lock, row_here)
        (ap (λ (c : SyncCount). c.0) (get_or-set_other (row_of latest lock) thread t count (sync_count 0) another)
        ∙ old.latest_is t lock t-inside locked
        ∙ same-thread t t-inside another lock)))
        (λ other-lock.
        rw (row_other l other-lock)
        (old.latest_is t l t-inside l-locked
        ∙ by_cases (ℕ_discrete t thread)
        (λ same. rw same (elsewhere l l-locked other-lock))
        (λ another. same-thread t t-inside another l)))

    rows-stay : (l : ℕ) → l < lock_count → length (row_of changed l) ≡ thread_count
    rows-stay l l-locked =
        by_cases (ℕ_discrete l lock)
        (λ same. rw (same, row_here) (length-set (row_of latest lock) thread count ∙ old.rows lock locked))
        (λ other. rw (row_other l other) (old.rows l l-locked))

    few-stay : (t : ℕ) → t < thread_count → next t ≤ slot_count
    few-stay t t-inside =
        by_cases (ℕ_discrete t thread)
        (λ same. rw same few_enough)
        (λ another. rw (others t t-inside another) (old.few t t-inside))

  -- one entry more is remembered
  module _ (thread : ℕ) (inside : thread < thread_count) (more : seen thread < slot_count)
      (good : Good (entry_in (log_in image thread) (seen thread)))
      (next : ℕ → ℕ) (one_more : next thread ≡ suc (seen thread))
      (others : (other : ℕ) → other < thread_count → (other ≡ thread → ⊥) → next other ≡ seen other) where
    abbrev entry : Entry
    entry = entry_in (log_in image thread) (seen thread)

    abbrev lock : ℕ
    lock = lock_of entry.place

    abbrev count : SyncCount
    count = count_of (row_of latest lock) thread

    locked : lock < lock_count
    locked = omega arith

    count-is : (later_of count entry).0 ≡ latest_acquire (log_in image thread) (next thread) lock
    count-is =
        latest_here (log_in image thread) (seen thread) count good (old.latest_is thread lock inside locked)
        ∙ ap (λ (number : ℕ). latest_acquire (log_in image thread) number lock) (sym one_more)

    elsewhere-same : (other : ℕ) → other < lock_count → (other ≡ lock → ⊥) →
        latest_acquire (log_in image thread) (seen thread) other ≡ latest_acquire (log_in image thread) (next thread) other
    elsewhere-same other below differs =
        sym (latest-others (log_in image thread) (seen thread) other good below differs)
        ∙ ap (λ (number : ℕ). latest_acquire (log_in image thread) number other) (sym one_more)

    abbrev written : List SyncCount
    written = set earlier (thread * slot_count + seen thread) count

    earlier_more : (t index : ℕ) → t < thread_count → index < next t →
        (earlier_of written t index).0 ≡ latest_acquire (log_in image t) index (lock_of (entry_place (log_in image t) index))
    earlier_more t index t-inside below =
        by_cases (ℕ_discrete (t * slot_count + index) (thread * slot_count + seen thread))
        (λ same.
        let few-here = index-few t index t-inside below in
        let same-thread : t ≡ thread = omega (arith, few-here, more, same) in
        let same_index : index ≡ seen thread = omega (arith, few-here, more, same) in
        rw (same-thread, same_index)
        (ap (λ (c : SyncCount). c.0)
        (get_or-set_same earlier (thread * slot_count + seen thread) count (sync_count 0) (omega (arith, old.places, more, inside)))
        ∙ old.latest_is thread lock inside locked))
        (λ differs.
        ap (λ (c : SyncCount). c.0)
        (get_or-set_other earlier (thread * slot_count + seen thread) (t * slot_count + index) count (sync_count 0) differs)
        ∙ old.earlier_is t index t-inside (seen_below t index t-inside below differs))
      where
        index-few : (t index : ℕ) → t < thread_count → index < next t → index < slot_count
        index-few t index t-inside below =
            by_cases (ℕ_discrete t thread)
            (λ same. omega (arith, ap next same, one_more, more, below))
            (λ another. omega (arith, others t t-inside another, old.few t t-inside, below))

        seen_below : (t index : ℕ) → t < thread_count → index < next t →
            (t * slot_count + index ≡ thread * slot_count + seen thread → ⊥) → index < seen t
        seen_below t index t-inside below differs =
            by_cases (ℕ_discrete t thread)
            (λ same.
            let not_last : index ≡ seen thread → ⊥ = λ last. differs (ap₂ (λ (a b : ℕ). a * slot_count + b) same last) in
            omega (arith, ap next same, ap seen same, one_more, below, not_last))
            (λ another. omega (arith, others t t-inside another, below))

    pub remember-more : Remembers image next (set latest lock (set (row_of latest lock) thread (later_of count entry))) written
    remember-more = record {
      locks = length-set latest lock _ ∙ old.locks;
      rows = rows-stay thread lock inside locked (later_of count entry) next (omega (arith, one_more, more)) others count-is elsewhere-same;
      places = length-set earlier (thread * slot_count + seen thread) count ∙ old.places;
      few = few-stay thread lock inside locked (later_of count entry) next (omega (arith, one_more, more)) others count-is elsewhere-same;
      latest_is =
          latest-stays thread lock inside locked (later_of count entry) next (omega (arith, one_more, more)) others count-is elsewhere-same;
      earlier_is = earlier_more;
    }

  -- the last entry of a thread is taken, and forgotten
  module _ (thread : ℕ) (inside : thread < thread_count) (has : 1 ≤ seen thread)
      (good : Good (entry_in (log_in image thread) (seen thread - 1)))
      (next : ℕ → ℕ) (one_fewer : next thread ≡ seen thread - 1)
      (others : (other : ℕ) → other < thread_count → (other ≡ thread → ⊥) → next other ≡ seen other) where
    abbrev last_lock : ℕ
    last_lock = lock_of (entry_place (log_in image thread) (seen thread - 1))

    abbrev before : SyncCount
    before = earlier_of earlier thread (seen thread - 1)

    before-is : before.0 ≡ latest_acquire (log_in image thread) (next thread) last_lock
    before-is =
        old.earlier_is thread (seen thread - 1) inside (omega arith)
        ∙ ap (λ (number : ℕ). latest_acquire (log_in image thread) number last_lock) (sym one_fewer)

    stays-elsewhere : (other : ℕ) → other < lock_count → (other ≡ last_lock → ⊥) →
        latest_acquire (log_in image thread) (seen thread) other ≡ latest_acquire (log_in image thread) (next thread) other
    stays-elsewhere other below differs =
        let before_last : seen thread ≡ suc (seen thread - 1) = omega arith in
        ap (λ (number : ℕ). latest_acquire (log_in image thread) number other) before_last
        ∙ latest-others (log_in image thread) (seen thread - 1) other good below differs
        ∙ ap (λ (number : ℕ). latest_acquire (log_in image thread) number other) (sym one_fewer)

    few_enough : next thread ≤ slot_count
    few_enough = omega (arith, one_fewer, old.few thread inside)

    fewer-below : (t index : ℕ) → t < thread_count → index < next t → index < seen t
    fewer-below t index t-inside below =
        by_cases (ℕ_discrete t thread)
        (λ same. omega (arith, ap next same, ap seen same, one_fewer, below))
        (λ another. omega (arith, others t t-inside another, below))

    pub remember-fewer : Remembers image next (set latest last_lock (set (row_of latest last_lock) thread before)) earlier
    remember-fewer = record {
      locks = length-set latest last_lock _ ∙ old.locks;
      rows = rows-stay thread last_lock inside (omega arith) before next few_enough others before-is stays-elsewhere;
      places = old.places;
      few = few-stay thread last_lock inside (omega arith) before next few_enough others before-is stays-elsewhere;
      latest_is = latest-stays thread last_lock inside (omega arith) before next few_enough others before-is stays-elsewhere;
      earlier_is = λ t index t-inside below. old.earlier_is t index t-inside (fewer-below t index t-inside below);
    }

  -- where each thread has as many entries by another count, the same is remembered
  pub remember-same : (next : ℕ → ℕ) → ((thread : ℕ) → thread < thread_count → next thread ≡ seen thread) →
      Remembers image next latest earlier
  remember-same next same = record {
    locks = old.locks;
    rows = old.rows;
    places = old.places;
    few = λ thread inside. rw (same thread inside) (old.few thread inside);
    latest_is = λ thread lock inside locked. rw (same thread inside) (old.latest_is thread lock inside locked);
    earlier_is = λ thread index inside below. old.earlier_is thread index inside (rw (same thread inside) at below);
  }
