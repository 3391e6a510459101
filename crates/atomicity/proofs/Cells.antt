-- A cell's versions: each entry of the cell, newest first, with the content after the last STORE made under it.
-- Each version's entry has the content that the version before it left; versions are in order; a version that isn't durable changed
-- nothing; and where no live version is durable the cell's persisted content is its cached one. Each kind of step keeps all of it.
use Prim.Native.Nat.{ℕ, ◌≤◌, ◌<◌}
use native.Mathlib.Decide.{dec_lt, ℕ_discrete}
use native.Mathlib.Omega.{arith}
use mathlib.Core.Path.{◌≡◌, refl, sym, ap, ◌∙◌, subst}
use mathlib.Core.Bool.{true, false}
use mathlib.Core.List.{List, [], ◌∷◌}
use mathlib.Core.Logic.{◌⊎◌, ⊎_elim, by_cases}
use Rattle.undo.specs.Regions.{is_acquire, is_release}
use Rattle.event.specs.declared.Event.{Event}
use Rattle.event.specs.declared.Event.TheVariants.{Store}
use Rattle.atomicity.proofs.Logged.{Entries, Made, Is, Grows, Keeps, Appends, still-is, kept-is, new_is, is-cases}
use Rattle.atomicity.proofs.Leads.{Leads, leads_grow, leads-on}

-- an entry of the cell: its thread and LSN, and the cell's content after the last STORE made under it
pub record Version : Type 0 where
  pub thread : ℕ
  pub lsn : ℕ
  pub after : ℕ

-- the content that the newest version leaves
abbrev pub latest : ℕ → List Version → ℕ
latest start [] = start
latest start (version ∷ older) = version.after

-- the newest version, if there is one, leads to this point
pub data NewestLeads (entries : Entries) (thread number : ℕ) : List Version → Type 0 where
  none-older : NewestLeads entries thread number []
  leads-to : {version : Version} {older : List Version} → Leads entries version.thread version.lsn thread number →
      NewestLeads entries thread number (version ∷ older)

-- a version over the older ones
pub record Link (entries : Entries) (start cell : ℕ) (version : Version) (older : List Version) : Type 0 where
  pub says : Is entries version.thread version.lsn (Store cell (latest start older))
  pub ordered : NewestLeads entries version.thread version.lsn older
  pub unstored : entries.durable version.thread < version.lsn → version.after ≡ latest start older

pub data Chain (entries : Entries) (start cell : ℕ) : List Version → Type 0 where
  unlogged : Chain entries start cell []
  linked : {version : Version} {older : List Version} → Link entries start cell version older →
      Chain entries start cell older → Chain entries start cell (version ∷ older)

-- the entry is one of the versions
pub data In (thread number : ℕ) : List Version → Type 0 where
  here : {version : Version} {older : List Version} → version.thread ≡ thread → version.lsn ≡ number → In thread number (version ∷ older)
  there : {version : Version} {older : List Version} → In thread number older → In thread number (version ∷ older)

-- the entry is the newest version
pub data Newest (thread number : ℕ) : List Version → Type 0 where
  newest : {version : Version} {older : List Version} → version.thread ≡ thread → version.lsn ≡ number →
      Newest thread number (version ∷ older)

-- no region begins or ends in the thread's log after this LSN
abbrev pub NoBoundaryAfter : Entries → ℕ → ℕ → Type 0
NoBoundaryAfter entries thread number =
    (later : ℕ) → number < later → Made entries thread later →
    (is_acquire (entries.event thread later) ≡ false) × (is_release (entries.event thread later) ≡ false)

-- no live version is durable
abbrev pub NoneDurable : Entries → List Version → Type 0
NoneDurable entries versions =
    (thread number : ℕ) → In thread number versions → entries.head thread ≤ number → number ≤ entries.durable thread → ⊥

-- what the cells hold
pub record Contents : Type 0 where
  pub start : ℕ → ℕ
  pub cached : ℕ → ℕ
  pub persisted : ℕ → ℕ

pub record CellsHold (entries : Entries) (contents : Contents) (versions : ℕ → List Version) : Type 0 where
  pub chain : (cell : ℕ) → Chain entries (contents.start cell) cell (versions cell)
  pub cached_is : (cell : ℕ) → contents.cached cell ≡ latest (contents.start cell) (versions cell)
  pub complete : {thread number cell old : ℕ} → Is entries thread number (Store cell old) → In thread number (versions cell)
  -- a cell's entry in a thread's current region is its newest version
  pub current : {thread number cell old : ℕ} → Is entries thread number (Store cell old) →
      NoBoundaryAfter entries thread number → Newest thread number (versions cell)
  pub kept : (cell : ℕ) → NoneDurable entries (versions cell) → contents.persisted cell ≡ contents.cached cell

-- entries that grow keep a chain: what is not durable was not
newest_grow : {old new : Entries} {now thread number : ℕ} {versions : List Version} → Grows old new now →
    NewestLeads old thread number versions → NewestLeads new thread number versions
newest_grow grows none-older = none-older
newest_grow grows (leads-to leads) = leads-to (leads_grow grows leads)

link_grow : {old new : Entries} {now start cell : ℕ} {version : Version} {older : List Version} → Grows old new now →
    Link old start cell version older → Link new start cell version older
link_grow {version} grows link = record {
  says = still-is grows link.says;
  ordered = newest_grow grows link.ordered;
  unstored = λ not_durable. let grew = grows.durable_grows version.thread in link.unstored (omega arith);
}

pub chain_grow : {old new : Entries} {now start cell : ℕ} {versions : List Version} → Grows old new now →
    Chain old start cell versions → Chain new start cell versions
chain_grow grows unlogged = unlogged
chain_grow grows (linked link chain) = linked (link_grow grows link) (chain_grow grows chain)

-- an entry that was current before
was_current : {old new : Entries} {now thread number : ℕ} → Grows old new now → NoBoundaryAfter new thread number →
    NoBoundaryAfter old thread number
was_current {old} {new} {now} {thread} grows none later after made =
    let found = none later after (grows.still thread later made) in
    rw (grows.says_same thread later made) at found

-- what a step that makes no entry may do to a cell's persisted content
pub data PersistCell (old new : Entries) (contents after : Contents) (versions : ℕ → List Version) (cell : ℕ) : Type 0 where
  made-equal : after.persisted cell ≡ contents.cached cell → PersistCell old new contents after versions cell
  unchanged : after.persisted cell ≡ contents.persisted cell →
      ((thread number : ℕ) → In thread number (versions cell) → old.head thread ≤ number → number < new.head thread → ⊥) →
      PersistCell old new contents after versions cell

-- no entry more, nothing stored: a cell's persisted content becomes its cached one or stays, and stays only where no version was pruned
pub cells_keep : {old new : Entries} {now : ℕ} {contents after : Contents} {versions : ℕ → List Version} →
    Keeps old new now → ((cell : ℕ) → after.start cell ≡ contents.start cell) →
    ((cell : ℕ) → after.cached cell ≡ contents.cached cell) →
    ((cell : ℕ) → PersistCell old new contents after versions cell) → CellsHold old contents versions →
    CellsHold new after versions
cells_keep {old} {new} {now} {contents} {after} {versions} keeps starts cacheds persists holds = record {
  chain = λ cell. rw (starts cell) (chain_grow keeps.grows (holds.chain cell));
  cached_is = λ cell. cacheds cell ∙ (holds.cached_is cell ∙ ap (λ (start : ℕ). latest start (versions cell)) (sym (starts cell)));
  complete = λ is. holds.complete (kept-is keeps is);
  current = λ is none. holds.current (kept-is keeps is) (was_current keeps.grows none);
  kept = λ cell none. by-persist cell none (persists cell);
}
  where
    by-persist : (cell : ℕ) → NoneDurable new (versions cell) → PersistCell old new contents after versions cell →
        after.persisted cell ≡ after.cached cell
    by-persist cell none (made-equal equal) = equal ∙ sym (cacheds cell)
    by-persist cell none (unchanged same not_pruned) =
        same ∙ (holds.kept cell (λ thread number is_in live is_durable.
        let grew = keeps.grows.durable_grows thread in
        by_cases
        (dec_lt number (new.head thread))
        (λ gone. not_pruned thread number is_in live gone)
        (λ not_gone. none thread number is_in (omega (arith, not_gone)) (omega arith))) ∙ sym (cacheds cell))

-- an ACQUIRE or a RELEASE entry: no version more
pub cells_boundary : {old new : Entries} {now thread : ℕ} {event : Event} {contents : Contents} {versions : ℕ → List Version} →
    Appends old new now thread event → (is_acquire event ≡ true) ⊎ (is_release event ≡ true) →
    ((cell value : ℕ) → event ≡ Store cell value → ⊥) → CellsHold old contents versions →
    CellsHold new contents versions
cells_boundary {old} {new} {now} {thread} {event} {contents} {versions} appends is_boundary not_store holds = record {
  chain = λ cell. chain_grow appends.grows (holds.chain cell);
  cached_is = holds.cached_is;
  complete = λ {thread = other} {number} {cell} {old = value} is.
      ⊎_elim
      (λ before. holds.complete before)
      (λ at. absurd (not_store cell value (sym at.2)))
      (is-cases appends is);
  current = λ {thread = other} {number} {cell} {old = value} is none.
      ⊎_elim
      (λ before. holds.current before (was_current appends.grows none))
      (λ at. absurd (not_store cell value (sym at.2)))
      (is-cases appends is);
  kept = λ cell none.
      holds.kept cell (λ other number is_in live is_durable.
      none
      other
      number
      is_in
      (rw (appends.head_same other) live)
      (rw (appends.durable_same other) is_durable));
}

-- the newest version leads on
newest_leads : {entries : Entries} {thread number other later : ℕ} {versions : List Version} →
    Newest thread number versions → NewestLeads entries other later versions → Leads entries thread number other later
newest_leads {entries} {thread} {number} {other} {later} (newest {version} is_thread is_number) (leads-to leads) =
    subst
    (λ (t : ℕ). Leads entries t number other later)
    is_thread
    (subst (λ (n : ℕ). Leads entries version.thread n other later) is_number leads)

-- an entry that stays current has no RELEASE from it on, so nothing leads from it to another thread
pub stays_in_thread : {entries : Entries} {thread number other later cell value : ℕ} →
    Is entries thread number (Store cell value) → NoBoundaryAfter entries thread number →
    Leads entries thread number other later → thread ≡ other
stays_in_thread {entries} {thread} {number} {other} {later} is none leads =
    ⊎_elim
    (λ stays. stays.0)
    (λ leaves.
    let says = leaves.release.says in
    let from = leaves.from in
    by_cases
    (dec_lt number leaves.at)
    (λ after.
    let never : true ≡ false = sym (ap is_release says) ∙ (none leaves.at after leaves.release.made).1 in
    let absurdity : ◌≡◌ {A = ℕ} 0 1 = cc in
    absurd (omega arith))
    (λ not_after.
    let same : leaves.at ≡ number = omega (arith, not_after) in
    let one = is.says in
    let other = rw same at says in
    let absurdity : ◌≡◌ {A = ℕ} 0 1 = cc in
    absurd (omega arith)))
    (leads-on leads)

-- what a LOG that makes an entry asks and does: one version more, of the content that the cell has
pub record LogsCell (old new : Entries) (now thread cell : ℕ) (contents : Contents) (versions after : ℕ → List Version) : Type 0 where
  pub appends : Appends old new now thread (Store cell (contents.cached cell))
  pub ordered : NewestLeads new thread (old.next thread) (versions cell)
  -- the cell has no entry in the thread's current region
  pub not_logged : {number value : ℕ} → Is old thread number (Store cell value) → NoBoundaryAfter old thread number → ⊥
  pub version_new : after cell ≡ record { thread = thread; lsn = old.next thread; after = contents.cached cell } ∷ versions cell
  pub versions_other : (other : ℕ) → (other ≡ cell → ⊥) → after other ≡ versions other

module _ {old new : Entries} {now thread cell : ℕ} {contents : Contents} {versions after : ℕ → List Version}
    (step : LogsCell old new now thread cell contents versions after) (holds : CellsHold old contents versions) where
  -- what holds of the cell's versions with the new one, and of every other cell's, holds of each cell's
  by-cell : (P : ℕ → List Version → Type 0) →
      P cell (record { thread = thread; lsn = old.next thread; after = contents.cached cell } ∷ versions cell) →
      ((other : ℕ) → (other ≡ cell → ⊥) → P other (versions other)) → (other : ℕ) → P other (after other)
  by-cell P self others other =
      by_cases
      (ℕ_discrete other cell)
      (λ same. subst (λ (c : ℕ). P c (after c)) (sym same) (rw step.version_new self))
      (λ differs. rw (step.versions_other other differs) (others other differs))

  no-older-current : {other number value : ℕ} → Is old other number (Store cell value) →
      Is new other number (Store cell value) → NoBoundaryAfter new other number → ⊥
  no-older-current {other} {number} before is none =
      let was_none = was_current step.appends.grows none in
      let same = stays_in_thread is none (newest_leads (holds.current before was_none) step.ordered) in
      step.not_logged (rw same at before) (rw same at was_none)

  pub cells-log : CellsHold new contents after
  cells-log = record {
    chain =
        by-cell
        (λ c versions. Chain new (contents.start c) c versions)
        (linked
        (record {
          says = rw (← holds.cached_is cell) (new_is step.appends);
          ordered = step.ordered;
          unstored = λ not_durable. holds.cached_is cell;
        })
        (chain_grow step.appends.grows (holds.chain cell)))
        (λ other differs. chain_grow step.appends.grows (holds.chain other));
    cached_is =
        by-cell
        (λ c versions. contents.cached c ≡ latest (contents.start c) versions)
        refl
        (λ other differs. holds.cached_is other);
    complete = λ {thread = other} {number} {cell = logged} {old = value} is.
        by-cell
        (λ c versions. Is new other number (Store c value) → In other number versions)
        (λ is_new.
        ⊎_elim
        (λ before. there (holds.complete before))
        (λ at. here (sym at.0) (sym at.1))
        (is-cases step.appends is_new))
        (λ c differs is_new.
        ⊎_elim
        (λ before. holds.complete before)
        (λ at. let says = at.2 in absurd (differs (cc)))
        (is-cases step.appends is_new))
        logged
        is;
    current = λ {thread = other} {number} {cell = logged} {old = value} is none.
        by-cell
        (λ c versions. Is new other number (Store c value) → Newest other number versions)
        (λ is_new.
        ⊎_elim
        (λ before. absurd (no-older-current before is_new none))
        (λ at. newest (sym at.0) (sym at.1))
        (is-cases step.appends is_new))
        (λ c differs is_new.
        ⊎_elim
        (λ before. holds.current before (was_current step.appends.grows none))
        (λ at. let says = at.2 in absurd (differs (cc)))
        (is-cases step.appends is_new))
        logged
        is;
    kept =
        by-cell
        (λ c versions. NoneDurable new versions → contents.persisted c ≡ contents.cached c)
        (λ none. holds.kept cell
        (λ other number is_in live is_durable.
        none other number (there is_in) (rw (step.appends.head_same other) live) (rw (step.appends.durable_same other) is_durable)))
        (λ c differs none.
        holds.kept c
        (λ other number is_in live is_durable.
        none other number is_in (rw (step.appends.head_same other) live) (rw (step.appends.durable_same other) is_durable)));
  }

-- the newest version with another content after it
abbrev pub restored : ℕ → List Version → List Version
restored value [] = []
restored value (version ∷ older) = record { thread = version.thread; lsn = version.lsn; after = value } ∷ older

-- the newest version is live and durable
pub record NewestDurable (entries : Entries) (thread number : ℕ) (versions : List Version) : Type 0 where
  pub is_newest : Newest thread number versions
  pub live : entries.head thread ≤ number
  pub is_durable : number ≤ entries.durable thread

restored_in : {thread number : ℕ} {versions : List Version} (value : ℕ) → In thread number versions →
    In thread number (restored value versions)
restored_in value (here is_thread is_number) = here is_thread is_number
restored_in value (there is_in) = there is_in

restored_newest : {thread number : ℕ} {versions : List Version} (value : ℕ) → Newest thread number versions →
    Newest thread number (restored value versions)
restored_newest value (newest is_thread is_number) = newest is_thread is_number

newest_in : {thread number : ℕ} {versions : List Version} → Newest thread number versions → In thread number versions
newest_in (newest is_thread is_number) = here is_thread is_number

restored-latest : {thread number : ℕ} {versions : List Version} (start value : ℕ) → Newest thread number versions →
    value ≡ latest start (restored value versions)
restored-latest start value (newest is_thread is_number) = refl

restored-chain : {entries : Entries} {start cell thread number : ℕ} {versions : List Version} (value : ℕ) →
    Newest thread number versions → number ≤ entries.durable thread → Chain entries start cell versions →
    Chain entries start cell (restored value versions)
restored-chain {entries} {start} {cell} {thread} {number} value (newest {version} {older} is_thread is_number) is_durable (linked link chain) =
    linked
    (record {
      says = link.says;
      ordered = link.ordered;
      unstored = λ not_durable.
          let under : entries.durable thread < number =
          subst (λ (t : ℕ). entries.durable t < number) is_thread
          (subst (λ (n : ℕ). entries.durable version.thread < n) is_number not_durable) in
          absurd (omega arith);
    })
    chain

-- what a STORE to a cell asks and does: its newest version is live and durable, and has the value stored after it
pub record StoresCell (entries : Entries) (thread number cell value : ℕ) (contents stored : Contents)
    (versions after : ℕ → List Version) : Type 0 where
  pub newest_durable : NewestDurable entries thread number (versions cell)
  pub start_same : (other : ℕ) → stored.start other ≡ contents.start other
  pub cached_self : stored.cached cell ≡ value
  pub cached_other : (other : ℕ) → (other ≡ cell → ⊥) → stored.cached other ≡ contents.cached other
  pub persisted_same : (other : ℕ) → stored.persisted other ≡ contents.persisted other
  pub versions_self : after cell ≡ restored value (versions cell)
  pub versions_other : (other : ℕ) → (other ≡ cell → ⊥) → after other ≡ versions other

module _ {entries : Entries} {thread number cell value : ℕ} {contents stored : Contents}
    {versions after : ℕ → List Version}
    (step : StoresCell entries thread number cell value contents stored versions after)
    (holds : CellsHold entries contents versions) where
  by-stored : (P : ℕ → List Version → Type 0) → P cell (restored value (versions cell)) →
      ((other : ℕ) → (other ≡ cell → ⊥) → P other (versions other)) → (other : ℕ) → P other (after other)
  by-stored P self others other =
      by_cases
      (ℕ_discrete other cell)
      (λ same. subst (λ (c : ℕ). P c (after c)) (sym same) (rw step.versions_self self))
      (λ differs. rw (step.versions_other other differs) (others other differs))

  pub cells_store : CellsHold entries stored after
  cells_store =
      let is_newest = step.newest_durable.is_newest in
      record {
        chain =
            by-stored
            (λ c versions. Chain entries (stored.start c) c versions)
            (rw (step.start_same cell) (restored-chain value is_newest step.newest_durable.is_durable (holds.chain cell)))
            (λ other differs. rw (step.start_same other) (holds.chain other));
        cached_is =
            by-stored
            (λ c versions. stored.cached c ≡ latest (stored.start c) versions)
            (step.cached_self ∙ restored-latest (stored.start cell) value is_newest)
            (λ other differs.
            step.cached_other other differs ∙
            (holds.cached_is other ∙ ap (λ (start : ℕ). latest start (versions other)) (sym (step.start_same other))));
        complete = λ {thread = other} {number = found} {cell = logged} {old} is.
            by-stored
            (λ c versions. Is entries other found (Store c old) → In other found versions)
            (λ same. restored_in value (holds.complete same))
            (λ c differs same. holds.complete same)
            logged
            is;
        current = λ {thread = other} {number = found} {cell = logged} {old} is none.
            by-stored
            (λ c versions. Is entries other found (Store c old) → Newest other found versions)
            (λ same. restored_newest value (holds.current same none))
            (λ c differs same. holds.current same none)
            logged
            is;
        kept =
            by-stored
            (λ c versions. NoneDurable entries versions → stored.persisted c ≡ stored.cached c)
            (λ none. absurd
            (none thread number (restored_in value (newest_in is_newest)) step.newest_durable.live step.newest_durable.is_durable))
            (λ c differs none. step.persisted_same c ∙ (holds.kept c none ∙ sym (step.cached_other c differs)));
      }
