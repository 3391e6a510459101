-- An undo log with an event more, what its live entries say, and the end of closing.
use Rattle.std.specs.Prelude.{ℕ, ◌+◌, cond}
use Rattle.answer.specs.Answer.{is_accepted}
use Rattle.answer.specs.Answer.{Answer}
use Rattle.entry.specs.Words.{said_by}
use Rattle.tail.specs.Tail.{released_tail}
use Rattle.thread_log.specs.Entries.{Changed, entry_at, append_of, appended_of, with_tail}
use Rattle.thread_log.specs.declared.Log.{Log}
use Rattle.event.specs.Events.{payload_of, event_of, closes_of}
use Rattle.event.specs.declared.Event.{Event}

-- what the live entry says that has so many live ones before it
abbrev pub live_event : Log → ℕ → Event
live_event log index = event_of (said_by (entry_at log (log.head.0 + index)))

-- the log with one entry more, which says this
abbrev pub enter_of : Log → Event → Log
enter_of log event = append_of log (payload_of event) (closes_of event)

-- an append of an event where a step's own tests answered this: their refusal and the log as it was, or what the append gives
unfoldable pub entered_of : Log → Answer → Event → Changed
entered_of log asked event =
    cond (is_accepted asked) (appended_of log (payload_of event) (closes_of event)) (record { answer = asked; log = log })

-- RELEASE: "ends closing"
unfoldable pub end_release_of : Log → Log
end_release_of log = with_tail log (released_tail log.tail)
