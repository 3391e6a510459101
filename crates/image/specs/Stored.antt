-- The logs that an image stores, one for each thread: how many of its entries are present, and what each of them says.
use Rattle.std.specs.Prelude.{ℕ, ◌+◌, List, [], map, get_or}
use Rattle.sizes.specs.Sizes.{thread_count}
use Rattle.answer.specs.Lists.{tab}
use Rattle.reader.specs.Stretch.{heads_at, stretch_of, kind_at, place_at, value_at, present_of}

-- one thread's log in an image: its head and its stretch
pub record StoredLog : Type 0 where
  pub head : ℕ
  pub stretch : List ℕ

-- the four logs of an image
unfoldable pub stored_logs : List ℕ → List StoredLog
stored_logs image =
    tab thread_count (λ thread. record { head = get_or image (heads_at + thread) 0; stretch = stretch_of image thread })

abbrev pub stored_log : List StoredLog → ℕ → StoredLog
stored_log logs thread = get_or logs thread (record { head = 0; stretch = [] })

-- how many entries of a log are present
abbrev pub present_in : StoredLog → ℕ
present_in log = present_of log.stretch log.head

-- how many present entries each thread has
abbrev pub present_entries : List ℕ → List ℕ
present_entries image = map present_in (stored_logs image)

-- the kind, place and value of the present entry that has so many present ones before it
abbrev pub entry_kind : StoredLog → ℕ → ℕ
entry_kind log index = kind_at log.stretch (log.head + index)

abbrev pub entry_place : StoredLog → ℕ → ℕ
entry_place log index = place_at log.stretch (log.head + index)

abbrev pub entry_value : StoredLog → ℕ → ℕ
entry_value log index = value_at log.stretch (log.head + index)
