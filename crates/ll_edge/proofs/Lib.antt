pub mod Counting
pub mod Writing
pub mod Fronts
pub mod Logs
pub mod CallerLemmas
pub mod Noting
pub mod Kept
