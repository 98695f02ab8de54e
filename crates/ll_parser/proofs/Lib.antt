pub mod Rows
pub mod printing
pub mod machines
pub mod stored
pub mod verdicts
pub mod spelling
pub mod CallerLemmas
