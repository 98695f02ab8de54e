pub mod Verdicts
pub mod Counting
pub mod Outcome
pub mod Endings
