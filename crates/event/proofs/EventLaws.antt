-- An entry is read as the event that it was written from.
use mathlib.Core.Path.{◌≡◌, refl}
use Rattle.event.specs.Events.{payload_of, event_of}
use Rattle.event.specs.declared.Event.{Event}
use Rattle.event.specs.declared.Event.TheVariants.{Empty, Store, Acquire, Release}

pub says : (event : Event) → event_of (payload_of event) ≡ event
unfolding event_of
says Empty = refl
says (Store cell old) = refl
says (Acquire lock count) = refl
says (Release lock count) = refl
