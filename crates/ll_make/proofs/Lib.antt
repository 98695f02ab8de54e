pub mod Growing
pub mod Pieces
pub mod CallerLemmas
mod Examples
