-- Laws of events.
pub mod EventLaws
