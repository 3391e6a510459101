-- The machine, its history and the reference model that was fed it: all concerns together, kept by every step.
use Prim.Native.Nat.{ℕ, suc, ◌<◌}
use native.Mathlib.Decide.{dec_lt, ℕ_discrete}
use native.Mathlib.Omega.{arith}
use mathlib.Core.Path.{◌≡◌, refl, sym, ap, ◌∙◌}
use mathlib.Core.Bool.{true, false, true≢false}
use borrow.Author.Tests.{eq-eqb}
use mathlib.Core.List.{List, [], ◌∷◌}
use mathlib.Core.Logic.{by_cases}
use Rattle.std.specs.Prelude.{Option, None, Some}
use lib.ListN.{length, set, take}
use lib.Seq.{take-append-le, take-append_seam}
use Rattle.sizes.specs.Sizes.{thread_count, entry_words}
use Rattle.answer.proofs.RefusalLaws.{AllFail}
use Rattle.thread_log.specs.Entries.{flush_log_of, fence_log_of, evict_words_of}
use Rattle.undo.specs.Entering.{end_release_of}
use Rattle.tail.specs.Tail.{flushed_tail, fenced_tail, released_tail}
use Rattle.undo.specs.Regions.{is_release, logged_of}
use Rattle.event.specs.declared.Event.{Event}
use Rattle.event.specs.declared.Event.TheVariants.{Store}
use Rattle.ring.specs.declared.Lsn.{Lsn}
use Rattle.accesses.specs.Accesses.{loaded_of, logged_cell_of}
use Rattle.machine.specs.Effects.{load_effect, first_log_effect, store_effect, acquire_effect, log_release_effect, release_effect, flush_effect}
use Rattle.machine.specs.Effects.{flush_log_effect, fence_effect, evict_log_effect, evict_cell_effect, evict_words_effect, effect}
use Rattle.kinds.specs.declared.Kind.{Kind}
use Rattle.kinds.specs.declared.Kind.TheVariants.{Load as LOAD, Log as LOG, Store as STORE, Acquire as ACQUIRE, LogRel as LOGREL}
use Rattle.kinds.specs.declared.Kind.TheVariants.{Release as RELEASE, Flush as FLUSH, FlushLog as FLUSHLOG, Fence as FENCE, Prune as PRUNE}
use Rattle.kinds.specs.declared.Kind.TheVariants.{EvictLog as EVICTLOG, EvictCell as EVICTCELL, EvictWords as EVICTWORDS}
use Rattle.machine.specs.State.{Machine}
use Rattle.machine.proofs.AcceptedMeans.{log_asked, acquire_asked, log_release_asked, release_asked, flush_log_asked, fence_asked}
use Rattle.machine.proofs.AcceptedMeans.{evict_log_asked, evict_words-asked, store_asked, prune_asked}
use Rattle.machine.proofs.LogCases.{log_cases}
use Rattle.machine.proofs.StepLaws.{tests_of}
use Rattle.reference.specs.Reference.{Book, empty_book, open_unless, feed, feed_accepted, joins, open_of}
use Rattle.atomicity.specs.History.{Fed, step_at, fed_book, Joined}
use Rattle.atomicity.proofs.Locks.{never-both}
use Rattle.atomicity.proofs.Logged.{Entries, Made, Is, Grows, new-made}
use Rattle.atomicity.proofs.Cells.{NoBoundaryAfter}
use Rattle.atomicity.proofs.BookLaws.{store_writes, store_regions}
use Rattle.atomicity.proofs.Follows.{Follows}
use Rattle.atomicity.proofs.HistoryRuns.{took_step, kind_number}
use Rattle.atomicity.proofs.Ordered.{and_then, accepted-inside}
use Rattle.atomicity.proofs.Places.{made_by, last_of, made-new, step-before, step-new, last-was, length-then}
use Rattle.atomicity.proofs.Regions.{RegionsHold, regions_keep, joined_place, open_is, open-current, unended-current, joins_log}
use Rattle.atomicity.proofs.RegionsAppend.{AppendRegions, append_homes, with_home, regions_log, regions_acquire, regions_release}
use Rattle.atomicity.proofs.RegionsAppend.{joins_log_home, joins_acquire_home, joins_release_home}
use Rattle.atomicity.proofs.RegionsPrune.{regions-prune}
use Rattle.atomicity.proofs.StepsFollow.{effect-follows, refused-follows}
use Rattle.atomicity.proofs.LogViews.{log_at, same_view}
use Rattle.atomicity.proofs.MachineInvariant.{Beginning, Ghost, MachineInvariant, entries_of, contents_of, last-kept}
use Rattle.atomicity.proofs.QuietStepsKeep.{EntriesStay, log_stays, logs_stay, machine-refused, machine-load, machine-flush}
use Rattle.atomicity.proofs.QuietStepsKeep.{machine-evict-cell, machine-flush-log, machine-fence, machine-evict-log}
use Rattle.atomicity.proofs.QuietStepsKeep.{machine-evict-words, stored-entry, stores-cell, stored_versions, machine-store}
use Rattle.atomicity.proofs.QuietStepsKeep.{logged-entry, logged-now, machine-log-again}
use Rattle.atomicity.proofs.AppendsKeep.{appends, acquire_entry, release_entry, store_entry, ghost_then, machine-acquire}
use Rattle.atomicity.proofs.AppendsKeep.{machine-log-release, log-appends, logs-cell, logged_versions, machine-log}
use Rattle.atomicity.proofs.ReleaseKeeps.{machine-release}
use Rattle.atomicity.proofs.PruneKeeps.{prune-regions, prune_logs, machine_prune}
use Rattle.atomicity.proofs.Writes.{WritesHold, writes_keep, writes_log, writes_store}

-- the reference model that was fed a history
abbrev pub book_of : Beginning → List Fed → Book
book_of start history = fed_book (empty_book start.cells) history

-- the reference model that was fed a history and one step more is the one fed the history, and then the step
pub book_then : (book : Book) (history : List Fed) (fed : Fed) →
    fed_book book (and_then history fed) ≡ feed (fed_book book history) fed.kind fed.thread fed.place fed.value fed.accepted
unfolding fed_book
book_then book [] fed = refl
book_then book (first ∷ history) fed =
    book_then (feed book first.kind first.thread first.place first.value first.accepted) history fed

-- each step that joined a region stands at an entry of that region
abbrev pub JoinsHold : Beginning → List Fed → Entries → (ℕ → ℕ → ℕ) → Type 0
JoinsHold start history entries home =
    (place region : ℕ) → Joined start.cells history place region →
    Made entries (step_at history place).thread (last_of entries history place) ×
    (home (step_at history place).thread (last_of entries history place) ≡ region)

pub record RunInvariant (start : Beginning) (machine : Machine) (history : List Fed) : Type 0 where
  pub ghost : Ghost
  pub home : ℕ → ℕ → ℕ
  pub machine_holds : MachineInvariant start machine history ghost
  pub follows : Follows machine history
  pub regions : RegionsHold (entries_of start machine ghost) (book_of start history).regions home
  pub writes : WritesHold home (contents_of start machine.cache) ghost.versions (book_of start history).writes
  pub joined : JoinsHold start history (entries_of start machine ghost) home

-- the new step stands at an entry of the region that it joins, if it joins one
abbrev pub JoinsNew : Beginning → List Fed → Fed → Entries → (ℕ → ℕ → ℕ) → Type 0
JoinsNew start history fed entries home =
    (region : ℕ) → fed.accepted ≡ true → joins (book_of start history) fed.kind fed.thread ≡ Some region →
    Made entries fed.thread (made_by entries (and_then history fed) fed.thread (suc (length history))) ×
    (home fed.thread (made_by entries (and_then history fed) fed.thread (suc (length history))) ≡ region)

module _ (start : Beginning) {history : List Fed} {old new : Entries} (home after : ℕ → ℕ → ℕ) (fed : Fed) where
  -- each older step stands at an entry of the region that it joined, and the new one at an entry of the region that it joins
  pub joins-then : Grows old new (length history) →
      ((thread number : ℕ) → Made old thread number → after thread number ≡ home thread number) →
      JoinsHold start history old home → JoinsNew start history fed new after →
      JoinsHold start (and_then history fed) new after
  joins-then grows homes holds joins_new place region joined =
      by_cases
      (dec_lt place (length history))
      (λ (before : place < length history).
      let taken : take place (and_then history fed) ≡ take place history = take-append-le place history (fed ∷ []) (omega arith) in
      let same = step-before history fed before in
      let was : Joined start.cells history place region = record {
        is_accepted = sym (ap (λ (s : Fed). s.accepted) same) ∙ joined.is_accepted;
        joined_region = rw (taken, same) at joined.joined_region;
      } in
      let found = holds place region was in
      rw (last-was history fed grows before, same) (
        grows.still (step_at history place).thread (last_of old history place) found.0,
        homes (step_at history place).thread (last_of old history place) found.0 ∙ found.1,
      ))
      (λ not_before.
      by_cases
      (ℕ_discrete place (length history))
      (λ here.
      let taken : take (length history) (and_then history fed) ≡ history = take-append_seam history (fed ∷ []) in
      let New-is = step-new history fed in
      rw (here, New-is)
      (joins_new
      region
      (sym (ap (λ (s : Fed). s.accepted) New-is) ∙ rw here at joined.is_accepted)
      (rw (taken, New-is) at (rw here at joined.joined_region))))
      (λ differs.
      let inside = accepted-inside (and_then history fed) place joined.is_accepted in
      let longer = length-then history fed in
      absurd (omega (arith, not_before, differs))))

-- opening a region writes nothing
open_writes : (found : Option ℕ) (book : Book) (thread : ℕ) → (open_unless found book thread).writes ≡ book.writes
open_writes None book thread = refl
open_writes (Some place) book thread = refl

module _ {start : Beginning} {machine : Machine} {history : List Fed} (run_holds : RunInvariant start machine history) where
  abbrev book : Book
  book = book_of start history

  abbrev ghost : Ghost
  ghost = run_holds.ghost

  -- what the machine has to do with its history, after an effect
  follows_then : (kind : Kind) (thread place value : ℕ) → AllFail (tests_of machine kind thread place value) →
      Follows (effect machine kind thread place value).machine (and_then history (took_step kind thread place value))
  follows_then =
      effect-follows machine history run_holds.follows (λ thread cell. logged-now run_holds.machine_holds thread cell 0)

  -- a step that makes no entry, moves no head, and that the reference model passes over keeps all concerns
  run-quiet : (after : Machine) (fed : Fed) → MachineInvariant start after (and_then history fed) ghost →
      Follows after (and_then history fed) → EntriesStay start machine after ghost (length history) →
      feed book fed.kind fed.thread fed.place fed.value fed.accepted ≡ book →
      (fed.accepted ≡ true → joins book fed.kind fed.thread ≡ None) →
      RunInvariant start after (and_then history fed)
  run-quiet after fed machine_holds follows stay passes joins_none =
      let same = book_then (empty_book start.cells) history fed ∙ passes in
      record {
        ghost = ghost;
        home = run_holds.home;
        machine_holds = machine_holds;
        follows = follows;
        regions = rw same (regions_keep stay.keeps stay.head_same run_holds.regions);
        writes = rw same (record { tracks = run_holds.writes.tracks });
        joined =
            joins-then start run_holds.home run_holds.home fed stay.keeps.grows (λ thread number made. refl)
            run_holds.joined (λ region is_accepted option_is_some. never-both (joins_none is_accepted) option_is_some);
      }

  pub run-refused : (fed : Fed) → fed.accepted ≡ false → RunInvariant start machine (and_then history fed)
  unfolding feed
  run-refused fed is_refused =
      run-quiet
      machine
      fed
      (machine-refused run_holds.machine_holds fed is_refused)
      (refused-follows machine history run_holds.follows fed is_refused)
      (logs_stay start machine machine ghost (length history) refl)
      (rw is_refused)
      (λ is_accepted. absurd (true≢false (sym is_accepted ∙ is_refused)))

  module _ (thread place value : ℕ) where
    -- what each kind of step keeps
    abbrev Kept : Kind → Type 0
    Kept kind =
        AllFail (tests_of machine kind thread place value) →
        RunInvariant start (effect machine kind thread place value).machine (and_then history (took_step kind thread place value))

    in_logs : thread < thread_count → thread < length machine.logs
    in_logs in_range = rw run_holds.machine_holds.sized.logs in_range

    -- a kind that leaves the logs alone, and that the reference model passes over
    run-still : (kind : Kind) → AllFail (tests_of machine kind thread place value) →
        MachineInvariant start (effect machine kind thread place value).machine
        (and_then history (took_step kind thread place value)) ghost →
        (effect machine kind thread place value).machine.logs ≡ machine.logs →
        feed book (kind_number kind) thread place value true ≡ book → joins book (kind_number kind) thread ≡ None →
        RunInvariant start (effect machine kind thread place value).machine (and_then history (took_step kind thread place value))
    run-still kind fails holds same_logs passes joins_none =
        run-quiet
        (effect machine kind thread place value).machine
        (took_step kind thread place value)
        holds
        (follows_then kind thread place value fails)
        (logs_stay start machine _ ghost (length history) same_logs)
        passes
        (λ is_accepted. joins_none)

    run-load : Kept LOAD
    unfolding effect load_effect loaded_of feed feed_accepted joins
    run-load fails = run-still LOAD fails (machine-load run_holds.machine_holds thread place value fails) refl refl refl

    run-flush : Kept FLUSH
    unfolding effect flush_effect feed feed_accepted joins
    run-flush fails = run-still FLUSH fails (machine-flush run_holds.machine_holds thread place value fails) refl refl refl

    run-evict-cell : Kept EVICTCELL
    unfolding effect evict_cell_effect feed feed_accepted joins
    run-evict-cell fails = run-still EVICTCELL fails (machine-evict-cell run_holds.machine_holds thread place value fails) refl refl refl

    run-flush-log : Kept FLUSHLOG
    unfolding effect flush_log_effect flush_log_of flushed_tail feed feed_accepted joins
    run-flush-log fails =
        run-quiet
        (effect machine FLUSHLOG thread place value).machine
        (took_step FLUSHLOG thread place value)
        (machine-flush-log run_holds.machine_holds thread place value fails)
        (follows_then FLUSHLOG thread place value fails)
        (log_stays start machine _ ghost (length history) thread (flush_log_of (log_at machine.logs thread)) refl
        (in_logs (flush_log_asked machine thread place value fails)) refl refl (omega arith))
        refl
        (λ is_accepted. refl)

    run-fence : Kept FENCE
    unfolding effect fence_effect fence_log_of fenced_tail feed feed_accepted joins
    run-fence fails =
        let in_range = fence_asked machine thread place value fails in
        run-quiet
        (effect machine FENCE thread place value).machine
        (took_step FENCE thread place value)
        (machine-fence run_holds.machine_holds thread place value fails)
        (follows_then FENCE thread place value fails)
        (log_stays start machine _ ghost (length history) thread (fence_log_of (log_at machine.logs thread)) refl
        (in_logs in_range) refl refl (run_holds.machine_holds.logs thread in_range).durable_flushed)
        refl
        (λ is_accepted. refl)

    -- a kind that evicts words of an entry, and that the reference model passes over
    run-words : (kind : Kind) (count : ℕ) → AllFail (tests_of machine kind thread place value) → thread < thread_count →
        MachineInvariant start (effect machine kind thread place value).machine
        (and_then history (took_step kind thread place value)) ghost →
        (effect machine kind thread place value).machine.logs ≡
        set machine.logs thread (evict_words_of (log_at machine.logs thread) place count) →
        feed book (kind_number kind) thread place value true ≡ book → joins book (kind_number kind) thread ≡ None →
        RunInvariant start (effect machine kind thread place value).machine (and_then history (took_step kind thread place value))
    unfolding evict_words_of
    run-words kind count fails in_range holds is_set passes joins_none =
        run-quiet
        (effect machine kind thread place value).machine
        (took_step kind thread place value)
        holds
        (follows_then kind thread place value fails)
        (log_stays start machine _ ghost (length history) thread (evict_words_of (log_at machine.logs thread) place count) is_set
        (in_logs in_range) refl refl (omega arith))
        passes
        (λ is_accepted. joins_none)

    run-evict-log : Kept EVICTLOG
    unfolding effect evict_log_effect feed feed_accepted joins
    run-evict-log fails =
        run-words EVICTLOG entry_words fails (evict_log_asked machine thread place value fails).in_thread
        (machine-evict-log run_holds.machine_holds thread place value fails) refl refl refl

    run-evict-words : Kept EVICTWORDS
    unfolding effect evict_words_effect feed feed_accepted joins
    run-evict-words fails =
        run-words EVICTWORDS value fails (evict_words-asked machine thread place value fails).in_thread
        (machine-evict-words run_holds.machine_holds thread place value fails) refl refl refl

    run-release : Kept RELEASE
    unfolding effect release_effect end_release_of released_tail feed feed_accepted joins
    run-release fails =
        run-quiet
        (effect machine RELEASE thread place value).machine
        (took_step RELEASE thread place value)
        (machine-release run_holds.machine_holds thread place value fails)
        (follows_then RELEASE thread place value fails)
        (log_stays start machine _ ghost (length history) thread (end_release_of (log_at machine.logs thread)) refl
        (in_logs (release_asked machine thread place value fails).in_thread) refl refl (omega arith))
        refl
        (λ is_accepted. refl)

    run-prune : Kept PRUNE
    unfolding feed feed_accepted joins
    run-prune fails =
        let fed = took_step PRUNE thread place value in
        let asked = prune_asked machine thread place value fails in
        let step = prune-regions run_holds.machine_holds thread asked in
        let same = book_then (empty_book start.cells) history fed in
        record {
          ghost = ghost;
          home = run_holds.home;
          machine_holds = machine_prune run_holds.machine_holds thread place value fails;
          follows = follows_then PRUNE thread place value fails;
          regions = rw (same, prune_logs machine thread place value) (regions-prune step run_holds.regions);
          writes = rw same (record { tracks = run_holds.writes.tracks });
          joined =
              joins-then
              start
              run_holds.home
              run_holds.home
              fed
              (rw (prune_logs machine thread place value) step.keeps.grows)
              (λ other number made. refl)
              run_holds.joined
              (λ region is_accepted option_is_some. never-both refl option_is_some);
        }

    -- a step that makes no entry and joins the open region, in which an entry of a cell stands, stands in that region itself
    joined-current : (kind : Kind) {number cell old : ℕ} → thread < thread_count →
        Is (entries_of start machine ghost) thread number (Store cell old) → NoBoundaryAfter (entries_of start machine ghost) thread number →
        joins book (kind_number kind) thread ≡ open_of book thread →
        JoinsHold start (and_then history (took_step kind thread place value)) (entries_of start machine ghost) run_holds.home
    joined-current kind in_thread is no_boundary joins_open =
        let fed = took_step kind thread place value in
        let keeps = same_view (entries_of start machine ghost) (length history) in
        let last = unended-current run_holds.regions is.made (ap is_release is.says) no_boundary in
        let counted = run_holds.machine_holds.places.next_is thread in_thread in
        let is_last = last.1.is_last in
        let at_last : made_by (entries_of start machine ghost) (and_then history fed) thread (suc (length history)) ≡ last.0 =
        last-kept fed keeps run_holds.machine_holds.places thread ∙ omega arith in
        joins-then
        start
        run_holds.home
        run_holds.home
        fed
        keeps.grows
        (λ other number made. refl)
        run_holds.joined
        (λ region is_accepted option_is_some.
        let lands : Some (run_holds.home thread last.0) ≡ Some region =
        sym (open_is book run_holds.regions last.1) ∙ (sym joins_open ∙ option_is_some) in
        rw at_last (last.1.made, (cc)))

    run_store : Kept STORE
    unfolding effect store_effect feed feed_accepted joins
    run_store fails =
        let found = stored-entry run_holds.machine_holds thread place value fails in
        let is_open = open-current book run_holds.regions found.2 found.3 in
        let same = book_then (empty_book start.cells) history (took_step STORE thread place value) in
        record {
          ghost = stored_versions run_holds.machine_holds thread place value;
          home = run_holds.home;
          machine_holds = machine-store run_holds.machine_holds thread place value fails;
          follows = follows_then STORE thread place value fails;
          regions = rw (same, store_regions book thread place value) run_holds.regions;
          writes =
              rw (same, store_writes book thread place value is_open)
              (writes_store (stores-cell run_holds.machine_holds thread place value fails) run_holds.writes);
          joined = joined-current STORE (store_asked machine thread place value fails).in_thread found.2 found.3 refl;
        }

    -- a LOG of a cell that the current region has an entry of leaves all as it is, and joins that region
    run-log-again : AllFail (tests_of machine LOG thread place value) → (number : Lsn) →
        logged_of (log_at machine.logs thread) place ≡ Some number → Follows machine (and_then history (took_step LOG thread place value)) →
        RunInvariant start machine (and_then history (took_step LOG thread place value))
    unfolding feed feed_accepted
    run-log-again fails number is_at follows =
        let in_thread = (log_asked machine thread place value fails).in_thread in
        let found = logged-entry run_holds.machine_holds thread place value in_thread number is_at in
        let is_open = open-current book run_holds.regions found.1 found.2 in
        let same : book_of start (and_then history (took_step LOG thread place value)) ≡ book =
        book_then (empty_book start.cells) history (took_step LOG thread place value) ∙
        ap (λ (found : Option ℕ). open_unless found book thread) is_open in
        record {
          ghost = ghost;
          home = run_holds.home;
          machine_holds = machine-log-again run_holds.machine_holds thread place value fails number is_at;
          follows = follows;
          regions = rw same run_holds.regions;
          writes = rw same run_holds.writes;
          joined =
              joined-current LOG in_thread found.1 found.2
              (joins_log book thread ∙ rw is_open);
        }

    -- the number of the entry that the step makes
    abbrev newest : ℕ
    newest = (log_at machine.logs thread).tail.next.0

    -- a step that makes an entry joins the region that the entry joins
    joined-append : (kind : Kind) (new : Entries) (region : ℕ) {event : Event} → thread < thread_count →
        AppendRegions (entries_of start machine ghost) new (length history) thread event run_holds.home
        (with_home run_holds.home thread newest region) region →
        joins book (kind_number kind) thread ≡ Some (with_home run_holds.home thread newest region thread newest) →
        JoinsHold start (and_then history (took_step kind thread place value)) new (with_home run_holds.home thread newest region)
    joined-append kind new region in_thread homes joins_it =
        let fed = took_step kind thread place value in
        let counted = run_holds.machine_holds.places.next_is thread in_thread in
        let at_new : made_by new (and_then history fed) thread (suc (length history)) ≡ newest =
        made-new history fed homes.appends.grows thread ∙
        rw (homes.appends.made_new, eq-eqb thread thread refl) (omega arith) in
        joins-then
        start
        run_holds.home
        (with_home run_holds.home thread newest region)
        fed
        homes.appends.grows
        homes.home_kept
        run_holds.joined
        (λ found is_accepted option_is_some.
        let lands : Some (with_home run_holds.home thread newest region thread newest) ≡ Some found = sym joins_it ∙ option_is_some in
        rw at_new (new-made homes.appends, (cc)))

    run-first-log : AllFail (tests_of machine LOG thread place value) → logged_of (log_at machine.logs thread) place ≡ None →
        Follows (first_log_effect machine thread place).machine (and_then history (took_step LOG thread place value)) →
        RunInvariant start (first_log_effect machine thread place).machine (and_then history (took_step LOG thread place value))
    unfolding first_log_effect logged_cell_of feed feed_accepted
    run-first-log fails is_nowhere follows =
        let fed = took_step LOG thread place value in
        let asked = log_asked machine thread place value fails in
        let appended = log-appends run_holds.machine_holds thread place value run_holds.follows fails is_nowhere in
        let region = joined_place book thread in
        let homes = append_homes run_holds.home region appended (run_holds.machine_holds.logs thread asked.in_thread).head_next in
        let same = book_then (empty_book start.cells) history fed in
        record {
          ghost =
              ghost_then run_holds.machine_holds thread place value
              (store_entry run_holds.machine_holds thread place value)
              (logged_versions run_holds.machine_holds thread place value);
          home = with_home run_holds.home thread newest region;
          machine_holds = machine-log run_holds.machine_holds thread place value run_holds.follows fails is_nowhere;
          follows = follows;
          regions = rw same (regions_log book homes run_holds.regions);
          writes =
              rw (same, open_writes (open_of book thread) book thread)
              (writes_log (logs-cell run_holds.machine_holds thread place value run_holds.follows fails is_nowhere)
              homes.home_kept run_holds.machine_holds.cells run_holds.writes);
          joined = joined-append LOG _ region asked.in_thread homes (joins_log_home book homes);
        }

    run-log : Kept LOG
    unfolding effect
    run-log fails =
        let fed = took_step LOG thread place value in
        log_cases
        (λ stepped. Follows stepped.machine (and_then history fed) → RunInvariant start stepped.machine (and_then history fed))
        machine
        thread
        place
        (run-first-log fails)
        (run-log-again fails)
        (follows_then LOG thread place value fails)

    run-acquire : Kept ACQUIRE
    unfolding effect acquire_effect feed feed_accepted
    run-acquire fails =
        let fed = took_step ACQUIRE thread place value in
        let asked = acquire_asked machine thread place value fails in
        let appended =
        appends run_holds.machine_holds thread asked.in_thread
        (acquire_entry run_holds.machine_holds thread place value) asked.room in
        let region = length book.regions in
        let homes = append_homes run_holds.home region appended (run_holds.machine_holds.logs thread asked.in_thread).head_next in
        let same = book_then (empty_book start.cells) history fed in
        record {
          ghost =
              ghost_then run_holds.machine_holds thread place value
              (acquire_entry run_holds.machine_holds thread place value) ghost.versions;
          home = with_home run_holds.home thread newest region;
          machine_holds = machine-acquire run_holds.machine_holds thread place value fails;
          follows = follows_then ACQUIRE thread place value fails;
          regions = rw same (regions_acquire book homes run_holds.regions);
          writes = rw same (writes_keep (λ cell. refl) homes.home_kept run_holds.machine_holds.cells run_holds.writes);
          joined = joined-append ACQUIRE _ region asked.in_thread homes (joins_acquire_home book homes);
        }

    run-log-release : Kept LOGREL
    unfolding effect log_release_effect feed feed_accepted
    run-log-release fails =
        let fed = took_step LOGREL thread place value in
        let asked = log_release_asked machine thread place value fails in
        let appended =
        appends run_holds.machine_holds thread asked.in_thread
        (release_entry run_holds.machine_holds thread place value) asked.room in
        let region = joined_place book thread in
        let homes = append_homes run_holds.home region appended (run_holds.machine_holds.logs thread asked.in_thread).head_next in
        let same = book_then (empty_book start.cells) history fed in
        record {
          ghost =
              ghost_then run_holds.machine_holds thread place value
              (release_entry run_holds.machine_holds thread place value) ghost.versions;
          home = with_home run_holds.home thread newest region;
          machine_holds = machine-log-release run_holds.machine_holds thread place value fails;
          follows = follows_then LOGREL thread place value fails;
          regions = rw same (regions_release book homes run_holds.regions);
          writes =
              rw (same, open_writes (open_of book thread) book thread)
              (writes_keep (λ cell. refl) homes.home_kept run_holds.machine_holds.cells run_holds.writes);
          joined = joined-append LOGREL _ region asked.in_thread homes (joins_release_home book homes);
        }

  -- each effect whose tests all failed keeps all concerns
  pub run-effect : (kind : Kind) (thread place value : ℕ) → AllFail (tests_of machine kind thread place value) →
      RunInvariant start (effect machine kind thread place value).machine (and_then history (took_step kind thread place value))
  run-effect LOAD thread place value fails = run-load thread place value fails
  run-effect LOG thread place value fails = run-log thread place value fails
  run-effect STORE thread place value fails = run_store thread place value fails
  run-effect ACQUIRE thread place value fails = run-acquire thread place value fails
  run-effect LOGREL thread place value fails = run-log-release thread place value fails
  run-effect RELEASE thread place value fails = run-release thread place value fails
  run-effect FLUSH thread place value fails = run-flush thread place value fails
  run-effect FLUSHLOG thread place value fails = run-flush-log thread place value fails
  run-effect FENCE thread place value fails = run-fence thread place value fails
  run-effect PRUNE thread place value fails = run-prune thread place value fails
  run-effect EVICTLOG thread place value fails = run-evict-log thread place value fails
  run-effect EVICTCELL thread place value fails = run-evict-cell thread place value fails
  run-effect EVICTWORDS thread place value fails = run-evict-words thread place value fails
