-- The invariant of a log's slots, for entries of any width: the words of an entry are what it says and then its tag, which tells its LSN. A
-- slot has the entry of an LSN where its last words are that LSN's tag. Changes are stated pointwise: what is here, and what is elsewhere.
use Prim.Native.Nat.{ℕ, ◌+◌, ◌-◌, ◌<◌, ◌≤◌}
use mathlib.Core.Path.{◌≡◌, ap, sym, ◌∙◌}
use mathlib.Core.Logic.{◌≢◌, by_cases}
use mathlib.Core.List.{List}
use native.Mathlib.Decide.{dec_lt, ℕ_discrete}
use native.Mathlib.Omega.{arith}
use lib.ListN.{length, drop}
use Rattle.ring.specs.Ring.{slot_count, last_lsn, slot_of}
use Rattle.thread_log.proofs.Torn.{torn_over, torn-whole, torn-same}

-- how the entries of a log are written: so many words, of which those from `said` on are the tag
pub record Written (said width : ℕ) (tag : ℕ → List ℕ) : Type 0 where
  pub said_in : said ≤ width
  pub tells : (one other : ℕ) → tag one ≡ tag other → one ≡ other

-- these are the words of an entry of this LSN
pub record IsEntry (said width : ℕ) (tag : ℕ → List ℕ) (words : List ℕ) (number : ℕ) : Type 0 where
  pub wide : length words ≡ width
  pub tagged : drop said words ≡ tag number

-- the head, the next LSN, and the last durable and the last flushed one
pub record Marks : Type 0 where
  pub head : ℕ
  pub next : ℕ
  pub durable : ℕ
  pub flushed : ℕ

pub record Ordered (marks : Marks) : Type 0 where
  pub head_positive : 1 ≤ marks.head
  pub head_next : marks.head ≤ marks.next
  pub next_bound : marks.next ≤ last_lsn + 1
  pub window : marks.next ≤ marks.head + slot_count
  pub durable_flushed : marks.durable ≤ marks.flushed
  pub flushed_next : marks.flushed + 1 ≤ marks.next
  pub head_durable : marks.head ≤ marks.durable + 1

-- `entry number` is the words of the entry of that LSN, dropped ones included; `cached` and `kept` are the words by slot
pub record SlotsHold (said width : ℕ) (tag entry cached kept : ℕ → List ℕ) (marks : Marks) : Type 0 where
  pub ordered : Ordered marks
  pub entries : (number : ℕ) → marks.head ≤ number → number < marks.next → IsEntry said width tag (entry number) number
  pub wide : (slot : ℕ) → slot < slot_count → length (kept slot) ≡ width
  pub cached_is : (number : ℕ) → marks.head ≤ number → number < marks.next → cached (slot_of number) ≡ entry number
  pub found_is : (number : ℕ) → marks.head ≤ number → number < marks.head + slot_count → drop said (kept (slot_of number)) ≡ tag number
      → (number < marks.next) × (kept (slot_of number) ≡ entry number)
  pub durable_is : (number : ℕ) → marks.head ≤ number → number ≤ marks.durable → kept (slot_of number) ≡ entry number

pub slot-below : (number : ℕ) → slot_of number < slot_count
slot-below number = omega arith

-- two LSNs of one window of 64 that share a slot are one
pub same-slot : (head one other : ℕ) → head ≤ one → one < head + slot_count → head ≤ other → other < head + slot_count
    → slot_of one ≡ slot_of other → one ≡ other
same-slot head one other one_from one_to other_from other_to same = omega arith

-- a log that begins at any head, over slots of any content none of which tells the LSN that it is to hold: it waits for a
-- machine that goes on from an image
pub begin_holds : (said width : ℕ) (tag entry cached kept : ℕ → List ℕ) (head : ℕ) → 1 ≤ head → head ≤ last_lsn + 1
    → ((slot : ℕ) → slot < slot_count → length (kept slot) ≡ width)
    → ((number : ℕ) → head ≤ number → drop said (kept (slot_of number)) ≡ tag number → ⊥)
    → SlotsHold said width tag entry cached kept (record { head = head; next = head; durable = head - 1; flushed = head - 1 })
begin_holds said width tag entry cached kept head positive bound wide none = record {
  ordered = record {
    head_positive = positive;
    head_next = omega arith;
    next_bound = bound;
    window = omega arith;
    durable_flushed = omega arith;
    flushed_next = omega arith;
    head_durable = omega arith;
  };
  entries = λ number from to. absurd (omega arith);
  wide = wide;
  cached_is = λ number from to. absurd (omega arith);
  found_is = λ number from to tells. absurd (none number from tells);
  durable_is = λ number from to. absurd (omega arith);
}

-- the first so many words of what is cached in a slot are persisted there
pub record KeptWords (cached kept after : ℕ → List ℕ) (slot count : ℕ) : Type 0 where
  pub here : after slot ≡ torn_over (kept slot) (cached slot) count
  pub elsewhere : (other : ℕ) → other ≢ slot → after other ≡ kept other

-- what is cached of the LSNs past one, up to another, is persisted whole
pub record KeptRun (cached kept after : ℕ → List ℕ) (past up_to : ℕ) : Type 0 where
  pub here : (number : ℕ) → past < number → number ≤ up_to → after (slot_of number) ≡ cached (slot_of number)
  pub elsewhere : (slot : ℕ) → ((number : ℕ) → past < number → number ≤ up_to → slot_of number ≢ slot) → after slot ≡ kept slot

-- one entry more, of the next LSN
pub record Appends (cached cached' entry entry' : ℕ → List ℕ) (next : ℕ) : Type 0 where
  pub here : cached' (slot_of next) ≡ entry' next
  pub elsewhere : (other : ℕ) → other ≢ slot_of next → cached' other ≡ cached other
  pub earlier : (number : ℕ) → number < next → entry' number ≡ entry number

module _ {said width : ℕ} {tag : ℕ → List ℕ} (written : Written said width tag) {entry cached kept : ℕ → List ℕ} {marks : Marks}
    (inv : SlotsHold said width tag entry cached kept marks) where
  -- the first so many words of a live entry are persisted: EVICTWORDS, and EVICTLOG with all of them
  module _ {after : ℕ → List ℕ} (live count : ℕ) (live_from : marks.head ≤ live) (live_to : live < marks.next)
      (keeps : KeptWords cached kept after (slot_of live) count) where
    abbrev there : ℕ
    there = slot_of live

    is_entry : IsEntry said width tag (entry live) live
    is_entry = inv.entries live live_from live_to

    after-there : after there ≡ torn_over (kept there) (entry live) count
    after-there = keeps.here ∙ ap (λ new. torn_over (kept there) new count) (inv.cached_is live live_from live_to)

    same_width : length (kept there) ≡ length (entry live)
    same_width = inv.wide there (slot-below live) ∙ sym is_entry.wide

    in_window : live < marks.head + slot_count
    in_window = omega (arith, inv.ordered.window)

    -- the slot, where it tells the entry, has it whole
    whole : drop said (after there) ≡ tag live → after there ≡ entry live
    whole tells =
        let long = is_entry.wide in
        after-there
        ∙ torn-whole (kept there) (entry live) said same_width (omega (arith, written.said_in)) count
        (λ told. (inv.found_is live live_from in_window (told ∙ is_entry.tagged)).1)
        (ap (drop said) (sym after-there) ∙ (tells ∙ sym is_entry.tagged))

    stays : kept there ≡ entry live → after there ≡ entry live
    stays had =
        let long = is_entry.wide in
        after-there ∙ torn-same (kept there) (entry live) said same_width (omega (arith, written.said_in)) count had

    is_live : (number : ℕ) → marks.head ≤ number → number < marks.head + slot_count → slot_of number ≡ there → number ≡ live
    is_live number from to same = same-slot marks.head number live from to live_from in_window same

    pub evict-holds : ((slot : ℕ) → slot < slot_count → length (after slot) ≡ width) → SlotsHold said width tag entry cached after marks
    evict-holds wide = record {
      ordered = inv.ordered;
      entries = inv.entries;
      wide = wide;
      cached_is = inv.cached_is;
      found_is = λ number from to tells.
          by_cases
          (ℕ_discrete (slot_of number) there)
          (λ same. rw (is_live number from to same) (live_to, whole (rw (is_live number from to same) at tells)))
          (λ differs.
          let before = keeps.elsewhere (slot_of number) differs in
          let found = inv.found_is number from to (ap (drop said) (sym before) ∙ tells) in
          (found.0, before ∙ found.1));
      durable_is = λ number from to.
          by_cases
          (ℕ_discrete (slot_of number) there)
          (λ same.
          let o = inv.ordered in
          let is = is_live number from (omega (arith, o.durable_flushed, o.flushed_next, o.window)) same in
          rw is (stays (rw is at (inv.durable_is number from to))))
          (λ differs. keeps.elsewhere (slot_of number) differs ∙ inv.durable_is number from to);
    }

  pub append-holds : {cached' entry' : ℕ → List ℕ} → Appends cached cached' entry entry' marks.next
      → IsEntry said width tag (entry' marks.next) marks.next → marks.next ≤ last_lsn → marks.next < marks.head + slot_count
      → SlotsHold said width tag entry' cached' kept
      (record { head = marks.head; next = marks.next + 1; durable = marks.durable; flushed = marks.flushed })
  append-holds {cached'} {entry'} more is_entry bound room =
      let next = marks.next in
      let o = inv.ordered in
      record {
        ordered = record {
          head_positive = o.head_positive;
          head_next = omega arith;
          next_bound = omega arith;
          window = omega arith;
          durable_flushed = o.durable_flushed;
          flushed_next = omega arith;
          head_durable = o.head_durable;
        };
        entries = λ number from to.
            by_cases
            (ℕ_discrete number next)
            (λ is. rw is is_entry)
            (λ differs. rw (more.earlier number (omega arith)) (inv.entries number from (omega arith)));
        wide = inv.wide;
        cached_is = λ number from to.
            by_cases
            (ℕ_discrete number next)
            (λ is. rw is more.here)
            (λ differs.
            more.elsewhere (slot_of number)
            (λ same. differs (same-slot marks.head number next from (omega arith) o.head_next room same))
            ∙ inv.cached_is number from (omega arith)
            ∙ sym (more.earlier number (omega arith)));
        found_is = λ number from to tells.
            let found = inv.found_is number from to tells in
            (omega arith, found.1 ∙ sym (more.earlier number found.0));
        durable_is = λ number from to. inv.durable_is number from to ∙ sym (more.earlier number (omega arith));
      }

  -- FLUSHLOG, and whatever else moves the last flushed LSN
  pub flush-holds : (flushed : ℕ) → marks.durable ≤ flushed → flushed + 1 ≤ marks.next
      → SlotsHold said width tag entry cached kept
      (record { head = marks.head; next = marks.next; durable = marks.durable; flushed = flushed })
  flush-holds flushed from to =
      let o = inv.ordered in
      record {
        ordered = record {
          head_positive = o.head_positive;
          head_next = o.head_next;
          next_bound = o.next_bound;
          window = o.window;
          durable_flushed = from;
          flushed_next = to;
          head_durable = o.head_durable;
        };
        entries = inv.entries;
        wide = inv.wide;
        cached_is = inv.cached_is;
        found_is = inv.found_is;
        durable_is = inv.durable_is;
      }

  pub fence-holds : {after : ℕ → List ℕ} → KeptRun cached kept after marks.durable marks.flushed
      → ((slot : ℕ) → slot < slot_count → length (after slot) ≡ width)
      → SlotsHold said width tag entry cached after
      (record { head = marks.head; next = marks.next; durable = marks.flushed; flushed = marks.flushed })
  fence-holds {after} run wide =
      let o = inv.ordered in
      let within : (number : ℕ) → marks.durable < number → number ≤ marks.flushed → after (slot_of number) ≡ entry number =
      λ number past up_to. run.here number past up_to ∙ inv.cached_is number (omega arith) (omega arith) in
      let without : (number : ℕ) → marks.head ≤ number → number < marks.head + slot_count
      → (marks.durable < number → number ≤ marks.flushed → ⊥) → after (slot_of number) ≡ kept (slot_of number) =
      λ number from to outside.
      run.elsewhere
      (slot_of number)
      (λ other past up_to same.
      let is = same-slot marks.head other number (omega arith) (omega arith) from to same in
      outside (omega arith) (omega arith)) in
      let found : (number : ℕ) → marks.head ≤ number → number < marks.head + slot_count
      → after (slot_of number) ≡ kept (slot_of number) → drop said (after (slot_of number)) ≡ tag number
      → (number < marks.next) × (after (slot_of number) ≡ entry number) =
      λ number from to same tells.
      let was = inv.found_is number from to (ap (drop said) (sym same) ∙ tells) in
      (was.0, same ∙ was.1) in
      record {
        ordered = record {
          head_positive = o.head_positive;
          head_next = o.head_next;
          next_bound = o.next_bound;
          window = o.window;
          durable_flushed = omega arith;
          flushed_next = o.flushed_next;
          head_durable = omega arith;
        };
        entries = inv.entries;
        wide = wide;
        cached_is = inv.cached_is;
        found_is = λ number from to tells.
            by_cases
            (dec_lt marks.durable number)
            (λ past.
            by_cases
            (dec_lt marks.flushed number)
            (λ over. found number from to (without number from to (λ _ up_to. omega arith)) tells)
            (λ up_to. (omega (arith, up_to), within number past (omega (arith, up_to)))))
            (λ before. found number from to (without number from to (λ past _. before past)) tells);
        durable_is = λ number from to.
            by_cases
            (dec_lt marks.durable number)
            (λ past. within number past to)
            (λ before. without number from (omega arith) (λ past _. before past) ∙ inv.durable_is number from (omega (arith, before)));
      }

  -- the head moves past durable entries. A slot that enters the window has the entry 64 below, so not the one that it is to hold.
  pub drop-holds : (head : ℕ) → marks.head ≤ head → head ≤ marks.next → head ≤ marks.durable + 1
      → SlotsHold said width tag entry cached kept
      (record { head = head; next = marks.next; durable = marks.durable; flushed = marks.flushed })
  drop-holds head from to durable =
      let o = inv.ordered in
      record {
        ordered = record {
          head_positive = omega arith;
          head_next = to;
          next_bound = o.next_bound;
          window = omega arith;
          durable_flushed = o.durable_flushed;
          flushed_next = o.flushed_next;
          head_durable = durable;
        };
        entries = λ number above below. inv.entries number (omega arith) below;
        wide = inv.wide;
        cached_is = λ number above below. inv.cached_is number (omega arith) below;
        found_is = λ number above below tells.
            by_cases
            (dec_lt number (marks.head + slot_count))
            (λ in_window. inv.found_is number (omega arith) in_window tells)
            (λ entered.
            let before = number - slot_count in
            let same : slot_of before ≡ slot_of number = omega arith in
            let had = inv.durable_is before (omega arith) (omega arith) in
            let tagged = (inv.entries before (omega arith) (omega arith)).tagged in
            let is =
            written.tells before number (sym tagged ∙ (ap (drop said) (sym had) ∙ (ap (λ slot. drop said (kept slot)) same ∙ tells))) in
            absurd (omega arith));
        durable_is = λ number above below. inv.durable_is number (omega arith) below;
      }
