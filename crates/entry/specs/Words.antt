-- One entry, whatever it says: what it says beside its LSN, its four words, and a slot of which only the first words became kept.
use Rattle.std.specs.Prelude.{ℕ, cond, ltb}
use mathlib.Core.List.{List, [], ◌∷◌, map, flatten}
use Rattle.sizes.specs.Sizes.{lsn_word}
use Rattle.ring.specs.Ring.{lsn}
use Rattle.ring.specs.declared.Lsn.{Lsn}
use Rattle.entry.specs.declared.Entry.{Entry}
use Rattle.entry.specs.declared.Payload.{Payload}

-- the entry of this LSN that says this
abbrev pub entry_of : Lsn → Payload → Entry
entry_of lsn payload = record { kind = payload.kind; place = payload.place; lsn = lsn; value = payload.value }

-- what an entry says beside its LSN
abbrev pub said_by : Entry → Payload
said_by entry = record { kind = entry.kind; place = entry.place; value = entry.value }

-- "An untouched slot holds four zeros"
abbrev pub zeros : Entry
zeros = record { kind = 0; place = 0; lsn = lsn 0; value = 0 }

-- "the words kind, place, value, rank"
abbrev pub slot_words : Entry → List ℕ
slot_words slot = slot.kind ∷ slot.place ∷ slot.value ∷ slot.lsn.0 ∷ []

-- the words of slots, one slot after the other
unfoldable pub words_of : List Entry → List ℕ
words_of slots = flatten (map slot_words slots)

-- a slot after the first so many words of an entry became kept over what stood there, "in the order kind, place, value, rank"
abbrev pub torn_of : Entry → Entry → ℕ → Entry
torn_of old new count = record {
  kind = cond (ltb 0 count) new.kind old.kind;
  place = cond (ltb 1 count) new.place old.place;
  lsn = cond (ltb lsn_word count) new.lsn old.lsn;
  value = cond (ltb 2 count) new.value old.value;
}
