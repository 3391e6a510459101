-- What an append does to a log's head, to the next LSN, and to the last durable and the last flushed one.
use Rattle.std.specs.Prelude.{Option}
use Prim.Native.Nat.{ℕ, ◌+◌}
use mathlib.Core.Path.{◌≡◌, refl}
use Rattle.append.specs.Append.{grown_tail}
use Rattle.thread_log.specs.Entries.{append_of}
use Rattle.thread_log.specs.declared.Log.{Log}
use Rattle.entry.specs.declared.Payload.{Payload}

-- the four numbers of a log
pub record Numbers (log : Log) (head next durable flushed : ℕ) : Type 0 where
  pub head_is : log.head.0 ≡ head
  pub next_is : log.tail.next.0 ≡ next
  pub durable_is : log.tail.durable.0 ≡ durable
  pub flushed_is : log.tail.flushed.0 ≡ flushed

pub append_numbers : (log : Log) (payload : Payload) (closes : Option ℕ)
    → Numbers (append_of log payload closes) log.head.0 (log.tail.next.0 + 1) log.tail.durable.0 log.tail.flushed.0
unfolding append_of grown_tail
append_numbers log payload closes = record { head_is = refl; next_is = refl; durable_is = refl; flushed_is = refl }
