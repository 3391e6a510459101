-- A log's stretch of an image: where it stands, and which entries are present in it.
use Rattle.std.specs.Prelude.{ℕ, zero, suc, ◌+◌, ◌*◌, Bool, cond, ◌&&◌, List, [], length, get_or, take, drop, eqb, leb, ltb}
use Rattle.sizes.specs.Sizes.{thread_count, entry_words, lsn_word}
use Rattle.ring.specs.Ring.{slot_count, last_lsn, slot_of}

-- "1,156 words: 128 kept cells; 4 heads; for threads 0 to 3, slots 0 to 63, the words kind, place, value, rank."
abbrev pub image_words : ℕ
image_words = 1156

-- where the heads stand in an image
abbrev pub heads_at : ℕ
heads_at = 128

-- the words of one log in an image
abbrev pub stretch_words : ℕ
stretch_words = slot_count * entry_words

-- the first word of a thread's stretch
abbrev pub stretch_at : ℕ → ℕ
stretch_at thread = heads_at + thread_count + thread * stretch_words

-- the log reader: "hands back a thread's own stretch of the lent image, or an empty part for a thread over 3 or an image not 1,156 words"
unfoldable pub stretch_of : List ℕ → ℕ → List ℕ
stretch_of image thread =
    cond (ltb thread thread_count && eqb (length image) image_words) (take stretch_words (drop (stretch_at thread) image)) []

-- the words of an LSN's slot in a stretch, one by one
abbrev pub word_at : List ℕ → ℕ → ℕ → ℕ
word_at stretch number index = get_or stretch (slot_of number * entry_words + index) 0

abbrev pub kind_at : List ℕ → ℕ → ℕ
kind_at stretch number = word_at stretch number 0

abbrev pub place_at : List ℕ → ℕ → ℕ
place_at stretch number = word_at stretch number 1

abbrev pub value_at : List ℕ → ℕ → ℕ
value_at stretch number = word_at stretch number 2

-- the entry of this LSN is "found in its slot": the slot's rank word is the LSN
unfoldable pub holds : List ℕ → ℕ → Bool
holds stretch number = eqb (word_at stretch number lsn_word) number

-- of so many LSNs from this one on, how many are found "up to the first missing one", with "no rank over 1,000,000", by any test of "found"
unfoldable pub present_from : (ℕ → Bool) → ℕ → ℕ → ℕ
present_from found number zero = 0
present_from found number (suc count) =
    cond (leb number last_lsn && found number) (suc (present_from found (suc number) count)) 0

-- "Present entries of a thread: ranks from its head on, each found in its slot, up to the first missing one, at most 64": how many
unfoldable pub present_of : List ℕ → ℕ → ℕ
present_of stretch head = present_from (holds stretch) head slot_count
