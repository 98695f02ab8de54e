-- Raw trees as they are stored.
pub mod StoredLemmas
pub mod Shown
pub mod Drafting
pub mod Sizes
pub mod Counts
pub mod Naming
pub mod QuantifierWords
