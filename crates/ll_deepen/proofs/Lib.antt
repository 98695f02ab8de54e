pub mod Bounds
pub mod CallerLemmas
