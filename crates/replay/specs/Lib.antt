-- What a whole run over lent buffers leaves.
pub mod Replay
