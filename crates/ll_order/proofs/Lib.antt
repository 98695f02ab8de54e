pub mod Lefts
pub mod Givings
pub mod CallerLemmas
