-- What recovery finds in the image of a cut: the present entries are the machine's, and undoing them is what the undoing lemma asks for,
-- with the reference model's cells as the ones wanted.
use Prim.Native.Nat.{ℕ, ◌+◌, ◌-◌, ◌≤◌, ◌<◌}
use native.Mathlib.Decide.{dec_lt}
use native.Mathlib.Omega.{arith}
use mathlib.Core.Path.{◌≡◌, refl, sym, ap, ◌∙◌, subst}
use mathlib.Core.Bool.{Bool, true, false, cond}
use mathlib.Core.List.{List, [], ◌∷◌}
use Rattle.std.specs.Prelude.{Option, None, Some}
use mathlib.Core.Logic.{◌⊎◌, inl, inr, ⊎_elim, by_cases}
use lib.ListN.{length, get_or, length-map, get_or-eq_default}
use lib.Dec.{eqb, ltb}
use borrow.Author.Tests.{lt-ltb, le-ltb, ne_eqb}
use Rattle.sizes.specs.Sizes.{thread_count, lock_count}
use Rattle.answer.specs.Lists.{some_below}
use Rattle.answer.proofs.BelowLaws.{none-some_below}
use Rattle.answer.proofs.ListLaws.{length-tab, get_d-tab, get_d_map}
use Rattle.event.specs.Events.{sync_count, kind_of, place_of, value_of, payload_of}
use Rattle.entry.specs.Words.{words_of}
use Rattle.reader.specs.Stretch.{heads_at, stretch_of, present_of}
use Rattle.event.specs.declared.Event.{Event}
use Rattle.event.specs.declared.Event.TheVariants.{Empty, Store, Acquire, Release}
use Rattle.thread_log.specs.declared.Log.{Log}
use Rattle.reader.proofs.StretchLaws.{Reads}
use Rattle.thread_log.proofs.ImageLaws.{logs-read}
use Rattle.thread_log.proofs.PresentLaws.{PresentAre, present_are}
use Rattle.thread_log.proofs.SlotLaws.{WordsAre}
use Rattle.machine.specs.Holds.{no_log, lock_of}
use Rattle.machine.specs.Image.{image_of}
use Rattle.machine.specs.State.{Machine}
use Rattle.machine.proofs.Counts.{Counted, count_bound}
use Rattle.image.specs.Stored.{StoredLog, stored_logs, stored_log, present_in, entry_kind, entry_place, entry_value}
use Rattle.image.specs.Tests.{is_bad_head, is_bad_entry, has_bad_entry}
use Rattle.undoing.specs.Undo.{left_of, undo_start}
use Rattle.orders.proofs.Timed.{Remains}
use Rattle.reference.specs.Reference.{Book, empty_book, open_of, open_unless, write, feed, feed_accepted, cells_of}
use Rattle.atomicity.specs.History.{Fed, fed_book}
use Rattle.atomicity.proofs.Logged.{Entries, Made, Is, IsReleaseOf, IsAcquireOf}
use Rattle.atomicity.proofs.Leads.{Leads, in_thread, by_lock, through, leads_pruned}
use Rattle.atomicity.proofs.OldestLive.{pruned_value, undo-cell, leads-present}
use Rattle.atomicity.proofs.Times.{Formed, a_store, an_acquire, a_release}
use Rattle.atomicity.proofs.Undoable.{Below, Untouched, Oldest, Undoable, older, handed, joined}
use Rattle.atomicity.proofs.LogViews.{log_at}
use Rattle.atomicity.proofs.RunInvariant.{RunInvariant, book_of}
use Rattle.atomicity.proofs.MachineInvariant.{Beginning, Ghost, MachineInvariant, entries_of}
use Rattle.atomicity.proofs.Writes.{book_cell, book_length}

-- the reference model keeps its start cells
record SameStart (book after : Book) : Type 0 where
  same : after.start ≡ book.start

either-start : {book one other : Book} (test : Bool) → SameStart book one → SameStart book other → SameStart book (cond test one other)
either-start true is_one is_other = is_one
either-start false is_one is_other = is_other

opened-start : (book : Book) (thread : ℕ) (found : Option ℕ) → SameStart book (open_unless found book thread)
opened-start book thread None = record { same = refl }
opened-start book thread (Some region) = record { same = refl }

written_start : (book : Book) (place value : ℕ) (found : Option ℕ) → SameStart book (write found book place value)
written_start book place value None = record { same = refl }
written_start book place value (Some region) = record { same = refl }

feed-start : (book : Book) (kind thread place value : ℕ) (is_accepted : Bool) → SameStart book (feed book kind thread place value is_accepted)
unfolding feed feed_accepted
feed-start book kind thread place value is_accepted =
    either-start
    is_accepted
    (either-start
    (eqb kind 2)
    (opened-start book thread (open_of book thread))
    (either-start
    (eqb kind 3)
    (written_start book place value (open_of book thread))
    (either-start
    (eqb kind 4)
    (record { same = refl })
    (either-start
    (eqb kind 5)
    (record { same = (opened-start book thread (open_of book thread)).same })
    (either-start (eqb kind 10) (record { same = refl }) (record { same = refl }))))))
    (record { same = refl })

pub book_start : (book : Book) (history : List Fed) → (fed_book book history).start ≡ book.start
unfolding fed_book
book_start book [] = refl
book_start book (fed ∷ history) =
    book_start (feed book fed.kind fed.thread fed.place fed.value fed.accepted) history ∙
    (feed-start book fed.kind fed.thread fed.place fed.value fed.accepted).same

-- an entry by its words
store_event : (event : Event) {cell value : ℕ} → kind_of event ≡ 1 → place_of event ≡ cell → value_of event ≡ value → event ≡ Store cell value
store_event Empty is_kind is_place is_value = absurd (omega arith)
store_event (Store cell old) is_kind is_place is_value = cc
store_event (Acquire lock count) is_kind is_place is_value = absurd (omega arith)
store_event (Release lock count) is_kind is_place is_value = absurd (omega arith)

acquire_event : (event : Event) {lock value : ℕ} → kind_of event ≡ 2 → place_of event ≡ lock → value_of event ≡ value →
    event ≡ Acquire lock (sync_count value)
acquire_event Empty is_kind is_place is_value = absurd (omega arith)
acquire_event (Store cell old) is_kind is_place is_value = absurd (omega arith)
acquire_event (Acquire lock count) is_kind is_place is_value = let same : count ≡ sync_count _ = ap sync_count is_value in cc
acquire_event (Release lock count) is_kind is_place is_value = absurd (omega arith)

release_event : (event : Event) {lock value : ℕ} → kind_of event ≡ 3 → place_of event ≡ lock → value_of event ≡ value →
    event ≡ Release lock (sync_count value)
release_event Empty is_kind is_place is_value = absurd (omega arith)
release_event (Store cell old) is_kind is_place is_value = absurd (omega arith)
release_event (Acquire lock count) is_kind is_place is_value = absurd (omega arith)
release_event (Release lock count) is_kind is_place is_value = let same : count ≡ sync_count _ = ap sync_count is_value in cc

module _ {start : Beginning} {machine : Machine} {history : List Fed} (run_holds : RunInvariant start machine history)
    (counted : Counted machine) (start_length : length start.cells ≡ 128) where
  abbrev ghost : Ghost
  ghost = run_holds.ghost

  abbrev entries : Entries
  entries = entries_of start machine ghost

  abbrev pub image : List ℕ
  image = image_of machine

  machine_holds : MachineInvariant start machine history ghost
  machine_holds = run_holds.machine_holds

  -- the image holds the persisted cells, the heads and the persisted words of each log
  pub reads : Reads image machine.cache.persisted (λ thread. (log_at machine.logs thread).head.0)
      (λ thread. words_of (log_at machine.logs thread).persisted)
  unfolding image_of
  reads =
      logs-read machine.cache.persisted machine.logs no_log machine_holds.cache_sized.persisted-long
      machine_holds.sized.logs (λ thread in_range. (machine_holds.logs thread in_range).persisted_slots)

  stored-in : (thread : ℕ) → thread < thread_count → thread < length (stored_logs image)
  unfolding stored_logs
  stored-in thread in_range = simp length-tab in_range

  stored_is : (thread : ℕ) → thread < thread_count →
      stored_log (stored_logs image) thread ≡
      record { head = (log_at machine.logs thread).head.0; stretch = words_of (log_at machine.logs thread).persisted }
  unfolding stored_logs
  stored_is thread in_range =
      get_d-tab thread_count (λ t. record { head = get_or image (heads_at + t) 0; stretch = stretch_of image t }) thread
      (record { head = 0; stretch = [] }) in_range ∙
      (λ i. record { head = reads.head_is thread in_range i; stretch = reads.stretch_is thread in_range i })

  abbrev left : List ℕ
  left = (undo_start image).left

  pub left-length : length left ≡ thread_count
  unfolding undo_start stored_logs
  left-length = simp (length-map, length-tab)

  left_is : (thread : ℕ) → thread < thread_count →
      left_of left thread ≡ present_of (words_of (log_at machine.logs thread).persisted) (log_at machine.logs thread).head.0
  unfolding undo_start
  left_is thread in_range =
      get_d_map present_in (stored_logs image) thread (record { head = 0; stretch = [] }) 0 (stored-in thread in_range) ∙
      ap present_in (stored_is thread in_range)

  left-thread : (thread index : ℕ) → index < left_of left thread → thread < thread_count
  left-thread thread index is_left =
      by_cases
      (dec_lt thread thread_count)
      (λ in_range. in_range)
      (λ beyond.
      let long = left-length in
      let none : left_of left thread ≡ 0 = get_or-eq_default left 0 (omega (arith, beyond)) in
      absurd (omega arith))

  -- where each thread's present entries end
  abbrev pub end : ℕ → ℕ
  end thread = (log_at machine.logs thread).head.0 + left_of left thread

  presents : (thread : ℕ) → thread < thread_count →
      PresentAre (log_at machine.logs thread) (λ number. payload_of (ghost.event thread number))
  presents thread in_range =
      present_are (log_at machine.logs thread) (λ number. payload_of (ghost.event thread number)) (machine_holds.logs thread in_range)

  -- an entry was made by one of the four threads
  made-thread : (thread number : ℕ) → Made entries thread number → thread < thread_count
  made-thread thread number made =
      by_cases
      (dec_lt thread thread_count)
      (λ in_range. in_range)
      (λ beyond.
      let long = machine_holds.sized.logs in
      let none : log_at machine.logs thread ≡ no_log = get_or-eq_default machine.logs no_log (omega (arith, beyond)) in
      let next : (log_at machine.logs thread).tail.next.0 ≡ 0 = ap (λ (log : Log). log.tail.next.0) none in
      let below = made.below in
      absurd (omega arith))

  durable-present : (thread number : ℕ) → Made entries thread number →
      number ≤ (log_at machine.logs thread).tail.durable.0 → number < end thread
  durable-present thread number made is_durable =
      let in_range = made-thread thread number made in
      let found = (presents thread in_range).durable_present in
      let same = left_is thread in_range in
      omega arith

  -- the words of a present entry are those of what the thread logged
  words-at : (thread index : ℕ) → index < left_of left thread →
      WordsAre (words_of (log_at machine.logs thread).persisted) ((log_at machine.logs thread).head.0 + index)
      (payload_of (ghost.event thread ((log_at machine.logs thread).head.0 + index)))
  words-at thread index is_left =
      let in_range = left-thread thread index is_left in
      (presents thread in_range).present_is index (rw (← left_is thread in_range) is_left)

  made_at : (thread index : ℕ) → index < left_of left thread → Made entries thread ((log_at machine.logs thread).head.0 + index)
  made_at thread index is_left =
      let in_range = left-thread thread index is_left in
      let live = (presents thread in_range).present_live in
      let same = left_is thread in_range in
      let since = machine_holds.begins thread in_range in
      record { since = omega arith; below = omega arith }

  -- a present entry's kind, place and value, as recovery reads them
  kind_at : (thread index : ℕ) → index < left_of left thread →
      entry_kind (stored_log (stored_logs image) thread) index ≡ kind_of (ghost.event thread ((log_at machine.logs thread).head.0 + index))
  kind_at thread index is_left =
      ap (λ (log : StoredLog). entry_kind log index) (stored_is thread (left-thread thread index is_left)) ∙
      (words-at thread index is_left).kind_is

  place_at : (thread index : ℕ) → index < left_of left thread →
      entry_place (stored_log (stored_logs image) thread) index ≡ place_of (ghost.event thread ((log_at machine.logs thread).head.0 + index))
  place_at thread index is_left =
      ap (λ (log : StoredLog). entry_place log index) (stored_is thread (left-thread thread index is_left)) ∙
      (words-at thread index is_left).place_is

  value-at : (thread index : ℕ) → index < left_of left thread →
      entry_value (stored_log (stored_logs image) thread) index ≡ value_of (ghost.event thread ((log_at machine.logs thread).head.0 + index))
  value-at thread index is_left =
      ap (λ (log : StoredLog). entry_value log index) (stored_is thread (left-thread thread index is_left)) ∙
      (words-at thread index is_left).value_is

  -- what remains is an entry
  remains-store : {thread index cell value : ℕ} → Remains (stored_logs image) left thread index 1 cell value →
      Is entries thread ((log_at machine.logs thread).head.0 + index) (Store cell value)
  remains-store {thread} {index} remains =
      let is_left = remains.is_left in
      record {
        made = made_at thread index is_left;
        says =
            store_event _ (sym (kind_at thread index is_left) ∙ remains.is_kind)
            (sym (place_at thread index is_left) ∙ remains.is_place)
            (sym (value-at thread index is_left) ∙ remains.is_value);
      }

  remains-acquire : {thread index lock value : ℕ} → Remains (stored_logs image) left thread index 2 lock value →
      IsAcquireOf entries thread ((log_at machine.logs thread).head.0 + index) lock value
  remains-acquire {thread} {index} remains =
      let is_left = remains.is_left in
      record {
        made = made_at thread index is_left;
        says =
            acquire_event _ (sym (kind_at thread index is_left) ∙ remains.is_kind)
            (sym (place_at thread index is_left) ∙ remains.is_place)
            (sym (value-at thread index is_left) ∙ remains.is_value);
      }

  remains-release : {thread index lock value : ℕ} → Remains (stored_logs image) left thread index 3 lock value →
      IsReleaseOf entries thread ((log_at machine.logs thread).head.0 + index) lock value
  remains-release {thread} {index} remains =
      let is_left = remains.is_left in
      record {
        made = made_at thread index is_left;
        says =
            release_event _ (sym (kind_at thread index is_left) ∙ remains.is_kind)
            (sym (place_at thread index is_left) ∙ remains.is_place)
            (sym (value-at thread index is_left) ∙ remains.is_value);
      }

  -- a live entry that is present remains
  is-remains : {thread number : ℕ} {event : Event} → Is entries thread number event →
      (log_at machine.logs thread).head.0 ≤ number → number < end thread →
      Remains (stored_logs image) left thread (number - (log_at machine.logs thread).head.0) (kind_of event) (place_of event) (value_of event)
  is-remains {thread} {number} {event} is live present =
      let head = (log_at machine.logs thread).head.0 in
      let index = number - head in
      let is_left : index < left_of left thread = omega arith in
      let same : head + index ≡ number = omega arith in
      let says : ghost.event thread (head + index) ≡ event = ap (ghost.event thread) same ∙ is.says in
      record {
        is_left = is_left;
        is_kind = kind_at thread index is_left ∙ ap kind_of says;
        is_place = place_at thread index is_left ∙ ap place_of says;
        is_value = value-at thread index is_left ∙ ap value_of says;
      }

  -- the order on entries is recovery's order on what is present
  leads-below : {thread number other later : ℕ} → Leads entries thread number other later →
      (log_at machine.logs thread).head.0 ≤ number → later < end other →
      Below (stored_logs image) left thread (number - (log_at machine.logs thread).head.0) other
      (later - (log_at machine.logs other).head.0)
  leads-below {thread} {number} (in_thread {later} before) live present =
      older thread (number - (log_at machine.logs thread).head.0) (later - (log_at machine.logs thread).head.0)
      (omega arith) (omega arith)
  leads-below {thread} {number} {other} {later} (by_lock {lock} {count} {larger} release acquire smaller) live present =
      let live_later : (log_at machine.logs other).head.0 ≤ later =
      by_cases
      (dec_lt later (log_at machine.logs other).head.0)
      (λ pruned. let gone = leads_pruned machine_holds.prunes (by_lock release acquire smaller) pruned in absurd (omega arith))
      (λ not_pruned. omega (arith, not_pruned)) in
      let present_too =
      leads-present machine_holds.locks machine_holds.prunes end durable-present (by_lock release acquire smaller) live present in
      handed thread (number - (log_at machine.logs thread).head.0) other (later - (log_at machine.logs other).head.0) (record {
        lock = lock;
        count = count;
        later = larger;
        release = is-remains release live present_too;
        acquire = is-remains acquire live_later present;
        larger = smaller;
      })
  leads-below {thread} {number} (through {other} {later} first second) live present =
      by_cases
      (dec_lt later (log_at machine.logs other).head.0)
      (λ pruned. let gone = leads_pruned machine_holds.prunes first pruned in absurd (omega arith))
      (λ not_pruned.
      let live_middle : (log_at machine.logs other).head.0 ≤ later = omega (arith, not_pruned) in
      joined (leads-below first live
      (leads-present machine_holds.locks machine_holds.prunes end durable-present second live_middle present))
      (leads-below second live_middle present))

  -- 22 is never given: heads are in range
  pub heads-good : some_below thread_count (λ thread. is_bad_head (stored_log (stored_logs image) thread)) ≡ false
  unfolding is_bad_head
  heads-good =
      none-some_below thread_count (λ thread. is_bad_head (stored_log (stored_logs image) thread)) (λ thread in_range.
      let holds = machine_holds.logs thread in_range in
      let positive = holds.head_positive in
      let within = holds.head_next in
      let bound = holds.next_bound in
      let head = (log_at machine.logs thread).head.0 in
      let not_zero : eqb head 0 ≡ false = ne_eqb head 0 (λ is_zero. omega arith) in
      let not_over : ltb 1000001 head ≡ false = le-ltb 1000001 head (omega arith) in
      ap is_bad_head (stored_is thread in_range) ∙ rw (not_zero, not_over))

  -- the count that an entry names is bounded
  count-good : {thread number : ℕ} {event : Event} → Is entries thread number event → Formed event →
      is_bad_entry (kind_of event) (place_of event) (value_of event) ≡ false
  unfolding is_bad_entry
  count-good is (a_store in_range) = rw (lt-ltb _ _ in_range)
  count-good {thread} {number} is (an_acquire {lock} {count} in_range) =
      let bound = count_bound machine counted lock in
      let less : count.0 ≤ (lock_of machine lock).count.0 = machine_holds.locks.acquire_count {count = count.0} is in
      rw (lt-ltb lock lock_count in_range, le-ltb 4000000 count.0 (omega arith))
  count-good {thread} {number} is (a_release {lock} {count} in_range) =
      let bound = count_bound machine counted lock in
      let less : count.0 ≤ (lock_of machine lock).count.0 =
      ⊎_elim (λ taken. omega arith) (λ waits. let equal = waits.is_count in omega arith)
      (machine_holds.locks.state {count = count.0} is) in
      rw (lt-ltb lock lock_count in_range, le-ltb 4000000 count.0 (omega arith))

  entry-good : (thread index : ℕ) → index < left_of left thread →
      is_bad_entry (entry_kind (stored_log (stored_logs image) thread) index)
      (entry_place (stored_log (stored_logs image) thread) index)
      (entry_value (stored_log (stored_logs image) thread) index) ≡ false
  entry-good thread index is_left =
      let number = (log_at machine.logs thread).head.0 + index in
      let made = made_at thread index is_left in
      rw (kind_at thread index is_left, place_at thread index is_left, value-at thread index is_left)
      (count-good {thread = thread} {number = number} (record { made = made; says = refl })
      (machine_holds.times.formed thread number made))

  -- 23 is never given: present entries are the machine's
  pub entries-good : some_below thread_count (λ thread. has_bad_entry (stored_log (stored_logs image) thread)) ≡ false
  unfolding has_bad_entry
  entries-good =
      none-some_below thread_count (λ thread. has_bad_entry (stored_log (stored_logs image) thread)) (λ thread in_range.
      none-some_below
      (present_in (stored_log (stored_logs image) thread))
      (λ index. is_bad_entry (entry_kind (stored_log (stored_logs image) thread) index)
      (entry_place (stored_log (stored_logs image) thread) index)
      (entry_value (stored_log (stored_logs image) thread) index))
      (λ index below.
      let same : present_in (stored_log (stored_logs image) thread) ≡ left_of left thread =
      ap present_in (stored_is thread in_range) ∙ sym (left_is thread in_range) in
      entry-good thread index (omega (arith, same, below))))

  -- the cells wanted
  abbrev pub final : List ℕ
  final = cells_of (book_of start history)

  pub final-length : length final ≡ 128
  final-length = book_length (book_of start history) ∙ (ap length (book_start (empty_book start.cells) history) ∙ start_length)

  final-at : (cell : ℕ) → cell < 128 → get_or final cell 0 ≡ pruned_value entries (get_or start.cells cell 0) (ghost.versions cell)
  final-at cell in_range =
      let same = book_start (empty_book start.cells) history in
      book_cell
      (book_of start history)
      machine_holds.prunes
      run_holds.regions
      machine_holds.cells
      run_holds.writes
      cell
      (rw same (rw start_length in_range))
      (rw same refl)

  settled-cell : (cell : ℕ) → cell < 128 →
      Untouched (stored_logs image) left (undo_start image).cells final cell ⊎ Oldest (stored_logs image) left final cell
  unfolding undo_start
  settled-cell cell in_range =
      ⊎_elim
      (λ settled.
      inl (record {
        no_store = λ thread index value remains.
            let is_left = remains.is_left in
            settled.0 thread ((log_at machine.logs thread).head.0 + index) value (remains-store remains) (omega arith) (omega arith);
        as_wanted = ap (λ (cells : List ℕ). get_or cells cell 0) reads.cells_are ∙ (settled.1 ∙ sym (final-at cell in_range));
      }))
      (λ oldest.
      let wanted = final-at cell in_range in
      inr (record {
        thread = oldest.thread;
        index = oldest.number - (log_at machine.logs oldest.thread).head.0;
        store = rw wanted (is-remains oldest.says oldest.live oldest.present);
        below = λ other later value remains.
            let is_left = remains.is_left in
            let head = (log_at machine.logs other).head.0 in
            let leads = oldest.leads (remains-store remains) (omega arith) in
            let same : head + later - head ≡ later = omega arith in
            subst
            (λ (index : ℕ).
            Below (stored_logs image) left oldest.thread (oldest.number - (log_at machine.logs oldest.thread).head.0) other index)
            same
            (leads-below leads oldest.live (omega arith));
      }))
      (undo-cell machine_holds.locks machine_holds.prunes end durable-present machine_holds.cells cell)

  pub undoable : Undoable (stored_logs image) left (undo_start image).cells final
  unfolding undo_start
  undoable = record {
    timed = record {
      threads = left-length;
      few = λ thread in_range. rw (left_is thread in_range) (presents thread in_range).present_most;
      time = λ thread index. ghost.time thread ((log_at machine.logs thread).head.0 + index);
      older_first = λ thread first second less is_left.
          machine_holds.times.later thread ((log_at machine.logs thread).head.0 + first)
          ((log_at machine.logs thread).head.0 + second) (made_at thread first (omega arith))
          (made_at thread second is_left) (omega arith);
      handed_first = λ giver given taker taken hands.
          machine_holds.locks.in_time (remains-release hands.release) (remains-acquire hands.acquire) hands.larger;
    };
    cells_length = ap length reads.cells_are ∙ machine_holds.cache_sized.persisted-long;
    final_length = final-length;
    settled = settled-cell;
  }
