-- What the code reads of an image and answers, and what an image is that the tests let pass.
use Rattle.std.specs.Prelude.{ℕ, ◌<◌, ◌≡◌, Bool, false, List, length, Result}
use Rattle.std.specs.Result.{result_map_both}
use Rattle.sizes.specs.Sizes.{thread_count}
use Rattle.answer.specs.Refusals.{first_refusal}
use Rattle.answer.specs.declared.Refusal.{Refusal}
use Rattle.reader.specs.Stretch.{image_words}
use Rattle.image.specs.Stored.{StoredLog, stored_logs, stored_log, present_entries, entry_kind, entry_place, entry_value}
use Rattle.image.specs.Tests.{is_bad_head, is_bad_entry, has_bad_entry, image_tests}
use Rattle.image.specs.declared.Entry.{Entry}

-- the log with this stretch and this head
abbrev pub log_of : List ℕ → ℕ → StoredLog
log_of stretch head = record { head = head; stretch = stretch }

-- a thread's log in an image
abbrev pub log_in : List ℕ → ℕ → StoredLog
log_in image thread = stored_log (stored_logs image) thread

-- what the present entry says that has so many present ones before it
abbrev pub entry_in : StoredLog → ℕ → Entry
entry_in log index = record { kind = entry_kind log index; place = entry_place log index; value = entry_value log index }

-- an entry that test 23 refuses, and one that it lets pass
abbrev pub is_bad : Entry → Bool
is_bad entry = is_bad_entry entry.kind entry.place entry.value

abbrev pub Good : Entry → Type 0
Good entry = is_bad entry ≡ false

-- an image that tests 21 and 22 let pass
pub record Headed (image : List ℕ) : Type 0 where
  pub words : length image ≡ image_words
  pub heads : (thread : ℕ) → thread < thread_count → is_bad_head (log_in image thread) ≡ false

-- an image that tests 21, 22 and 23 let pass
pub record Readable (image : List ℕ) : Type 0 where
  pub headed : Headed image
  pub good : (thread : ℕ) → thread < thread_count → has_bad_entry (log_in image thread) ≡ false

-- the refusal of the first test that holds; where none holds, how many present entries each thread has
unfoldable pub tested_of : List ℕ → Result (List ℕ) Refusal
tested_of image = result_map_both (λ given. present_entries image) (λ refusal. refusal) (first_refusal (image_tests image))
