-- What turns of the engine do with what is owed.
pub mod Forks
pub mod Owing
pub mod Pointing
pub mod Resuming
pub mod Splitting
pub mod Stepping
pub mod Turns
