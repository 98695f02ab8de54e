pub mod OpenHeads
pub mod FitLemmas
pub mod Levels
