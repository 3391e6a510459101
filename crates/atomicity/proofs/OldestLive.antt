-- What undoing needs of a cell: its oldest live version has the content that the pruned versions left, and leads to the other live ones;
-- where no live version is durable, the persisted content is that content already.
use Prim.Native.Nat.{ℕ, ◌≤◌, ◌<◌}
use native.Mathlib.Decide.{dec_lt}
use native.Mathlib.Omega.{arith}
use mathlib.Core.Path.{◌≡◌, refl, sym, ◌∙◌, subst}
use mathlib.Core.Bool.{cond}
use mathlib.Core.List.{List, [], ◌∷◌}
use mathlib.Core.Logic.{◌⊎◌, inl, inr, ⊎_elim, by_cases}
use lib.Dec.{ltb}
use borrow.Author.Tests.{lt-ltb, le-ltb}
use Rattle.event.specs.declared.Event.TheVariants.{Store}
use Rattle.atomicity.proofs.Logged.{Entries, Made, Is}
use Rattle.atomicity.proofs.Locks.{Locks, LocksHold, PrunesHold, durable_before}
use Rattle.atomicity.proofs.Leads.{Leads, in_thread, by_lock, through, leads_pruned}
use Rattle.atomicity.proofs.Cells.{Version, latest, NewestLeads, leads-to, Link, Chain, unlogged, linked, In, here, there}
use Rattle.atomicity.proofs.Cells.{NoneDurable, Contents, CellsHold}

-- the content that the newest pruned version left, or the start cell
abbrev pub pruned_value : Entries → ℕ → List Version → ℕ
pruned_value entries start [] = start
pruned_value entries start (version ∷ older) =
    cond (ltb version.lsn (entries.head version.thread)) version.after (pruned_value entries start older)

-- every version is pruned
abbrev pub AllPruned : Entries → List Version → Type 0
AllPruned entries versions = (thread number : ℕ) → In thread number versions → number < entries.head thread

-- the oldest live version, among versions of which the newest is live too
pub record Oldest (entries : Entries) (start cell : ℕ) (versions : List Version) : Type 0 where
  pub thread : ℕ
  pub number : ℕ
  pub is_in : In thread number versions
  pub live : entries.head thread ≤ number
  pub says : Is entries thread number (Store cell (pruned_value entries start versions))
  pub leads : (other later : ℕ) → In other later versions → entries.head other ≤ later → Leads entries thread number other later
  pub leads_newest : {other later : ℕ} → NewestLeads entries other later versions → Leads entries thread number other later

in_nothing : {A : Type 0} {thread number : ℕ} → In thread number [] → A
in_nothing is_in = elim is_in [ ]

-- a version's entry was made
in_made : {entries : Entries} {start cell thread number : ℕ} {versions : List Version} →
    Chain entries start cell versions → In thread number versions → Made entries thread number
in_made {entries} {start} {cell} {thread} {number} (linked {version} link chain) (here is_thread is_number) =
    subst
    (λ (t : ℕ). Made entries t number)
    is_thread
    (subst (λ (n : ℕ). Made entries version.thread n) is_number link.says.made)
in_made (linked link chain) (there is_in) = in_made chain is_in
in_made unlogged is_in = elim is_in [ ]

module _ {entries : Entries} {locks : Locks} (prunes : PrunesHold entries locks) where
  -- what stands before a pruned version is pruned
  older-pruned : {start cell thread number : ℕ} {older : List Version} → Chain entries start cell older →
      NewestLeads entries thread number older → number < entries.head thread → AllPruned entries older
  older-pruned (linked {version} link chain) (leads-to leads) pruned thread number (here is_thread is_number) =
      subst
      (λ (t : ℕ). number < entries.head t)
      is_thread
      (subst (λ (n : ℕ). n < entries.head version.thread) is_number (leads_pruned prunes leads pruned))
  older-pruned (linked link chain) (leads-to leads) pruned thread number (there is_in) =
      older-pruned chain link.ordered (leads_pruned prunes leads pruned) thread number is_in
  older-pruned unlogged _ pruned thread number is_in = elim is_in [ ]

  -- where the newest version is pruned, all versions are
  newest_pruned : {start cell : ℕ} {version : Version} {older : List Version} → Link entries start cell version older →
      Chain entries start cell older → version.lsn < entries.head version.thread →
      AllPruned entries (version ∷ older)
  newest_pruned {version} link chain pruned thread number (here is_thread is_number) =
      subst
      (λ (t : ℕ). number < entries.head t)
      is_thread
      (subst (λ (n : ℕ). n < entries.head version.thread) is_number pruned)
  newest_pruned link chain pruned thread number (there is_in) =
      older-pruned chain link.ordered pruned thread number is_in

  -- what leads to a point leads to an equal one
  leads-here : {thread number before earlier other later : ℕ} → Leads entries thread number before earlier →
      before ≡ other → earlier ≡ later → Leads entries thread number other later
  leads-here {thread} {number} {before} {earlier} {other} {later} leads is_thread is_number =
      subst
      (λ (t : ℕ). Leads entries thread number t later)
      is_thread
      (subst (λ (n : ℕ). Leads entries thread number before n) is_number leads)

  -- where all older versions are pruned, the newest version leads to every live one
  only-newest : {version : Version} {older : List Version} → AllPruned entries older → (other later : ℕ) →
      In other later (version ∷ older) → entries.head other ≤ later →
      Leads entries version.thread version.lsn other later
  only-newest pruned other later (here is_thread is_number) live = leads-here (in_thread (omega arith)) is_thread is_number
  only-newest pruned other later (there is_in) live = let gone = pruned other later is_in in absurd (omega arith)

  -- the oldest live one of the older versions leads to every live version, the newest included
  leads-newer : {start cell : ℕ} {version : Version} {older : List Version} (oldest : Oldest entries start cell older) →
      NewestLeads entries version.thread version.lsn older → (other later : ℕ) →
      In other later (version ∷ older) → entries.head other ≤ later →
      Leads entries oldest.thread oldest.number other later
  leads-newer oldest ordered other later (here is_thread is_number) live = leads-here (oldest.leads_newest ordered) is_thread is_number
  leads-newer oldest ordered other later (there is_in) live = oldest.leads other later is_in live

  leads-self : {version : Version} {older : List Version} {other later : ℕ} →
      NewestLeads entries other later (version ∷ older) → Leads entries version.thread version.lsn other later
  leads-self (leads-to leads) = leads

  -- all versions are pruned and the newest content is the pruned one, or there is an oldest live version
  pub oldest-live : {start cell : ℕ} {versions : List Version} → Chain entries start cell versions →
      (AllPruned entries versions × (pruned_value entries start versions ≡ latest start versions)) ⊎ Oldest entries start cell versions
  oldest-live unlogged = inl ((λ thread number is_in. in_nothing is_in), refl)
  oldest-live {start} {cell} (linked {version} {older} link chain) =
      by_cases
      (dec_lt version.lsn (entries.head version.thread))
      (λ pruned. inl (newest_pruned link chain pruned, rw (lt-ltb _ _ pruned)))
      (λ not_pruned.
      let live : entries.head version.thread ≤ version.lsn = omega (arith, not_pruned) in
      let passed : pruned_value entries start (version ∷ older) ≡ pruned_value entries start older = rw (le-ltb _ _ live) in
      ⊎_elim
      (λ gone.
      inr (record {
        thread = version.thread;
        number = version.lsn;
        is_in = here refl refl;
        live = live;
        says = subst (λ (value : ℕ). Is entries version.thread version.lsn (Store cell value)) (sym (passed ∙ gone.1)) link.says;
        leads = only-newest gone.0;
        leads_newest = leads-self;
      }))
      (λ oldest.
      inr (record {
        thread = oldest.thread;
        number = oldest.number;
        is_in = there oldest.is_in;
        live = oldest.live;
        says = subst (λ (value : ℕ). Is entries oldest.thread oldest.number (Store cell value)) (sym passed) oldest.says;
        leads = leads-newer oldest link.ordered;
        leads_newest = λ newer. through (oldest.leads_newest link.ordered) (leads-self newer);
      }))
      (oldest-live chain))

-- where no live version is durable, the newest content is the pruned one
pub undurable_value : {entries : Entries} {start cell : ℕ} {versions : List Version} →
    Chain entries start cell versions → NoneDurable entries versions →
    latest start versions ≡ pruned_value entries start versions
undurable_value unlogged none = refl
undurable_value {entries} {start} {cell} (linked {version} {older} link chain) none =
    by_cases
    (dec_lt version.lsn (entries.head version.thread))
    (λ pruned. rw (lt-ltb _ _ pruned))
    (λ not_pruned.
    let live : entries.head version.thread ≤ version.lsn = omega (arith, not_pruned) in
    let not_durable : entries.durable version.thread < version.lsn =
    by_cases
    (dec_lt (entries.durable version.thread) version.lsn)
    (λ less. less)
    (λ not_less. absurd (none version.thread version.lsn (here refl refl) live (omega (arith, not_less)))) in
    rw (le-ltb _ _ live) (link.unstored not_durable ∙ undurable_value chain (λ thread number is_in. none thread number (there is_in))))

-- what is present of each thread's log: from its head up to this end
module _ {entries : Entries} {locks : Locks} (locks_hold : LocksHold entries locks) (prunes : PrunesHold entries locks)
    (end : ℕ → ℕ)
    (durable_present : (thread number : ℕ) → Made entries thread number → number ≤ entries.durable thread → number < end thread) where
  -- present is closed downward among what is live
  pub leads-present : {thread number other later : ℕ} → Leads entries thread number other later →
      entries.head thread ≤ number → later < end other → number < end thread
  leads-present (in_thread before) live present = omega arith
  leads-present {thread} {number} (by_lock release acquire smaller) live present =
      durable_present thread number release.made (durable_before locks_hold release acquire smaller)
  leads-present {thread} {number} (through {other} {later} first second) live present =
      by_cases
      (dec_lt later (entries.head other))
      (λ pruned. let gone = leads_pruned prunes first pruned in absurd (omega arith))
      (λ not_pruned. leads-present first live (leads-present second (omega (arith, not_pruned)) present))

  -- no version of the cell is present, and it holds the pruned content already; or its oldest live version is present, with that content
  pub record UndoCell (contents : Contents) (cell : ℕ) (versions : List Version) : Type 0 where
    pub thread : ℕ
    pub number : ℕ
    pub live : entries.head thread ≤ number
    pub present : number < end thread
    pub says : Is entries thread number (Store cell (pruned_value entries (contents.start cell) versions))
    pub leads : {other later old : ℕ} → Is entries other later (Store cell old) → entries.head other ≤ later →
        Leads entries thread number other later

  pub undo-cell : {contents : Contents} {versions : ℕ → List Version} → CellsHold entries contents versions →
      (cell : ℕ) →
      (((thread number old : ℕ) → Is entries thread number (Store cell old) → entries.head thread ≤ number → number < end thread → ⊥) ×
      (contents.persisted cell ≡ pruned_value entries (contents.start cell) (versions cell))) ⊎
      UndoCell contents cell (versions cell)
  undo-cell {contents} {versions} holds cell =
      ⊎_elim
      (λ gone.
      inl (
        (λ thread number old is live present. let pruned = gone.0 thread number (holds.complete is) in omega arith),
        settled (λ thread number is_in live is_durable. let pruned = gone.0 thread number is_in in omega arith),
      ))
      (λ oldest.
      by_cases
      (dec_lt oldest.number (end oldest.thread))
      (λ present.
      inr (record {
        thread = oldest.thread;
        number = oldest.number;
        live = oldest.live;
        present = present;
        says = oldest.says;
        leads = λ {other} {later} is live. oldest.leads other later (holds.complete is) live;
      }))
      (λ absent.
      let none : (thread number : ℕ) → In thread number (versions cell) → entries.head thread ≤ number → number < end thread → ⊥ =
      λ thread number is_in live present. absent (leads-present (oldest.leads thread number is_in live) oldest.live present) in
      inl (
        (λ thread number old is live present. none thread number (holds.complete is) live present),
        settled (λ thread number is_in live is_durable.
            none thread number is_in live (durable_present thread number (in_made (holds.chain cell) is_in) is_durable)),
      )))
      (oldest-live prunes (holds.chain cell))
    where
      settled : NoneDurable entries (versions cell) → contents.persisted cell ≡ pruned_value entries (contents.start cell) (versions cell)
      settled none = holds.kept cell none ∙ (holds.cached_is cell ∙ undurable_value (holds.chain cell) none)
