-- Laws of what a text line does.
pub mod ScriptLaws
pub mod Cases
