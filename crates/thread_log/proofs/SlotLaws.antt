-- The words of slots, and what stands in a slot after slots were persisted. No invariant of a log is needed here.
use Prim.Native.Nat.{ℕ, zero, suc, ◌+◌, ◌*◌, ◌<◌, ◌≤◌}
use mathlib.Core.Bool.{true}
use mathlib.Core.Path.{◌≡◌, refl, ap, sym, ◌∙◌, subst}
use mathlib.Core.Logic.{◌≢◌, by_cases}
use mathlib.Core.List.{List, [], ◌∷◌, ◌++◌, flatten}
use native.Mathlib.Decide.{dec_lt, ℕ_discrete}
use native.Mathlib.Nat.{zero-add}
use native.Mathlib.Omega.{arith}
use borrow.Author.Tests.{eq-eqb, eqb-true, lt-ltb, le-ltb}
use lib.Dec.{eqb, ltb}
use lib.ListN.{length, get_or, length-set, length-append, get_or-replicate, get_or-append}
use lib.Seq.{get_or-set_same, get_or-set_other, get_or-append-add, set_out, take-nil, drop-nil}
use Rattle.sizes.specs.Sizes.{entry_words, lsn_word}
use Rattle.answer.proofs.BelowLaws.{some_below-found}
use Rattle.ring.specs.Ring.{slot_count, lsn, slot_of}
use Rattle.entry.specs.Words.{entry_of, zeros, slot_words, words_of, torn_of}
use Rattle.thread_log.specs.Entries.{live_count, is_live_slot, persist_words, persist_slot, persist_from}
use Rattle.reader.specs.Stretch.{word_at, kind_at, place_at, value_at, holds}
use Rattle.entry.specs.declared.Entry.{Entry}
use Rattle.thread_log.specs.declared.Log.{Log}
use Rattle.entry.specs.declared.Payload.{Payload}
use Rattle.thread_log.proofs.SlotsHold.{slot-below}
use Rattle.thread_log.proofs.Torn.{torn_over}

-- some live entry sits in a slot that is live
pub live_slot : (log : Log) (slot : ℕ) → is_live_slot log slot ≡ true
    → (number : ℕ) × (log.head.0 ≤ number) × (number < log.tail.next.0) × (slot_of number ≡ slot)
unfolding is_live_slot
live_slot log slot is_live =
    let found = some_below-found (live_count log) (λ index. eqb (slot_of (log.head.0 + index)) slot) is_live in
    (log.head.0 + found.number, omega arith, omega arith, eqb-true _ _ found.holds)

-- the words of an entry tell it
pub words_tell : (one other : Entry) → slot_words one ≡ slot_words other → one ≡ other
words_tell one other same =
    ap (λ kind. made kind one.place one.value one.lsn.0) (word 0)
    ∙ ap (λ place. made other.kind place one.value one.lsn.0) (word 1)
    ∙ ap (λ value. made other.kind other.place value one.lsn.0) (word 2)
    ∙ ap (made other.kind other.place other.value) (word 3)
  where
    made : ℕ → ℕ → ℕ → ℕ → Entry
    made kind place value number = record { kind = kind; place = place; lsn = lsn number; value = value }

    word : (index : ℕ) → get_or (slot_words one) index 0 ≡ get_or (slot_words other) index 0
    word index = ap (λ words. get_or words index 0) same

-- the words of slots, slot by slot
pub length_words : (slots : List Entry) → length (words_of slots) ≡ length slots * entry_words
unfolding words_of flatten
length_words [] = refl
length_words (slot ∷ slots) = length-append (slot_words slot) (words_of slots) ∙ omega (arith, length_words slots)

pub slot-word : (slots : List Entry) (slot index : ℕ) → index < entry_words
    → get_or (words_of slots) (slot * entry_words + index) 0 ≡ get_or (slot_words (get_or slots slot zeros)) index 0
unfolding words_of flatten
slot-word [] slot index inside = sym (get_or-replicate entry_words index 0 0 inside)
slot-word (one ∷ slots) zero index inside = rw zero-add (get_or-append (slot_words one) (words_of slots) 0 index inside)
slot-word (one ∷ slots) (suc slot) index inside =
    let place : suc slot * entry_words + index ≡ entry_words + (slot * entry_words + index) = omega arith in
    ap (λ place. get_or (slot_words one ++ words_of slots) place 0) place
    ∙ get_or-append-add (slot_words one) (words_of slots) (slot * entry_words + index) 0
    ∙ slot-word slots slot index inside

-- a slot holds an LSN just where its last word is the LSN
pub holds-lsn : (slots : List Entry) (number : ℕ) → holds (words_of slots) number ≡ eqb (get_or slots (slot_of number) zeros).lsn.0 number
unfolding holds
holds-lsn slots number = ap (λ word. eqb word number) (slot-word slots (slot_of number) lsn_word (omega arith))

-- the words of an LSN's slot are those of the entry of that LSN that says this
pub record WordsAre (words : List ℕ) (number : ℕ) (payload : Payload) : Type 0 where
  pub kind_is : kind_at words number ≡ payload.kind
  pub place_is : place_at words number ≡ payload.place
  pub value_is : value_at words number ≡ payload.value

pub words_are : (slots : List Entry) (number : ℕ) (payload : Payload) → get_or slots (slot_of number) zeros ≡ entry_of (lsn number) payload
    → WordsAre (words_of slots) number payload
words_are slots number payload is =
    let word : (index : ℕ) → index < entry_words →
    word_at (words_of slots) number index ≡ get_or (slot_words (entry_of (lsn number) payload)) index 0 =
    λ index inside. slot-word slots (slot_of number) index inside ∙ ap (λ slot. get_or (slot_words slot) index 0) is in
    record { kind_is = word 0 (omega arith); place_is = word 1 (omega arith); value_is = word 2 (omega arith) }

-- a slot that has the entry of an LSN holds the LSN
pub entry-holds : (slots : List Entry) (number : ℕ) (payload : Payload) → get_or slots (slot_of number) zeros ≡ entry_of (lsn number) payload
    → holds (words_of slots) number ≡ true
entry-holds slots number payload is =
    holds-lsn slots number ∙ (ap (λ (slot : Entry). eqb slot.lsn.0 number) is ∙ eq-eqb number number refl)

-- the words of a slot that is torn: an entry's first ones over the old ones
pub torn_words : (old new : Entry) (count : ℕ) → slot_words (torn_of old new count) ≡ torn_over (slot_words old) (slot_words new) count
torn_words old new zero = refl
torn_words old new (suc zero) = refl
torn_words old new (suc (suc zero)) = refl
torn_words old new (suc (suc (suc zero))) = refl
torn_words old new (suc (suc (suc (suc count)))) =
    let past : (index : ℕ) → index < entry_words → ltb index (suc (suc (suc (suc count)))) ≡ true =
    λ index inside. lt-ltb index (suc (suc (suc (suc count)))) (omega arith) in
    rw (
      past 0 (omega arith),
      past 1 (omega arith),
      past 2 (omega arith),
      past lsn_word (omega arith),
      take-nil {A = ℕ} count,
      drop-nil {A = ℕ} count,
    )

pub length_persist_words : (cached slots : List Entry) (slot count : ℕ) → length (persist_words cached slots slot count) ≡ length slots
unfolding persist_words
length_persist_words cached slots slot count = length-set slots slot (torn_of (get_or slots slot zeros) (get_or cached slot zeros) count)

pub length_persist_from : (cached slots : List Entry) (number count : ℕ) → length (persist_from cached slots number count) ≡ length slots
unfolding persist_from persist_slot
length_persist_from cached slots number zero = refl
length_persist_from cached slots number (suc count) =
    length_persist_words cached (persist_from cached slots number count) (slot_of (number + count)) entry_words
    ∙ length_persist_from cached slots number count

-- a slot of which words are persisted has these of what is cached there, and the other slots have what they had
pub persist_here : (cached slots : List Entry) (slot count : ℕ) → slot < length slots
    → get_or (persist_words cached slots slot count) slot zeros ≡ torn_of (get_or slots slot zeros) (get_or cached slot zeros) count
unfolding persist_words
persist_here cached slots slot count inside = get_or-set_same slots slot _ zeros inside

pub persist_other : (cached slots : List Entry) (slot count other : ℕ) → other ≢ slot
    → get_or (persist_words cached slots slot count) other zeros ≡ get_or slots other zeros
unfolding persist_words
persist_other cached slots slot count other differs = get_or-set_other slots slot other _ zeros differs

-- a word past those that are persisted is as it was
torn_old : (old new : Entry) (count index : ℕ) → count ≤ index
    → get_or (slot_words (torn_of old new count)) index 0 ≡ get_or (slot_words old) index 0
torn_old old new count zero few = rw (le-ltb 0 count few)
torn_old old new count (suc zero) few = rw (le-ltb 1 count few)
torn_old old new count (suc (suc zero)) few = rw (le-ltb 2 count few)
torn_old old new count (suc (suc (suc zero))) few = rw (le-ltb lsn_word count few)
torn_old old new count (suc (suc (suc (suc index)))) few = refl

-- a word of a slot that is none of those persisted is as it was
module _ (cached slots : List Entry) (slot count index : ℕ) where
  abbrev SameWord : ℕ → Type 0
  SameWord other =
      get_or (slot_words (get_or (persist_words cached slots slot count) other zeros)) index 0 ≡ get_or (slot_words (get_or slots other zeros)) index 0

  past_word : count ≤ index → SameWord slot
  unfolding persist_words
  past_word past =
      by_cases
      (dec_lt slot (length slots))
      (λ inside.
      ap (λ (entry : Entry). get_or (slot_words entry) index 0) (persist_here cached slots slot count inside) ∙
      torn_old (get_or slots slot zeros) (get_or cached slot zeros) count index past)
      (λ outside. ap (λ (after : List Entry). get_or (slot_words (get_or after slot zeros)) index 0)
      (set_out slots slot _ (omega (arith, outside))))

  pub persist-word : (other : ℕ) → (other ≡ slot → count ≤ index) → SameWord other
  persist-word other past =
      by_cases
      (ℕ_discrete other slot)
      (λ same. subst SameWord (sym same) (past_word (past same)))
      (λ differs. ap (λ (entry : Entry). get_or (slot_words entry) index 0) (persist_other cached slots slot count other differs))

-- the slots of a run of LSNs that is persisted have what is cached there, and the others have what they had
pub run_here : (cached slots : List Entry) (number count live : ℕ) → length slots ≡ slot_count → number ≤ live → live < number + count
    → get_or (persist_from cached slots number count) (slot_of live) zeros ≡ get_or cached (slot_of live) zeros
unfolding persist_from persist_slot
run_here cached slots number zero live sized from to = absurd (omega arith)
run_here cached slots number (suc count) live sized from to =
    let before = persist_from cached slots number count in
    let last = slot_of (number + count) in
    let inside : last < length before = omega (arith, length_persist_from cached slots number count, slot-below (number + count)) in
    by_cases
    (ℕ_discrete (slot_of live) last)
    (λ same. rw same (persist_here cached before last entry_words inside))
    (λ differs.
    persist_other cached before last entry_words (slot_of live) differs
    ∙ run_here cached slots number count live sized from (omega arith))

pub run_elsewhere : (cached slots : List Entry) (number count slot : ℕ)
    → ((live : ℕ) → number ≤ live → live < number + count → slot_of live ≢ slot)
    → get_or (persist_from cached slots number count) slot zeros ≡ get_or slots slot zeros
unfolding persist_from persist_slot
run_elsewhere cached slots number zero slot outside = refl
run_elsewhere cached slots number (suc count) slot outside =
    persist_other cached (persist_from cached slots number count) (slot_of (number + count)) entry_words slot
    (λ same. outside (number + count) (omega arith) (omega arith) (sym same))
    ∙ run_elsewhere cached slots number count slot (λ live from to. outside live from (omega arith))
