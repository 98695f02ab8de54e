-- What a machine shows and keeps.
pub mod CellLemmas
pub mod Keeping
pub mod Labels
pub mod LaterLemmas
pub mod MachineLemmas
pub mod ReadLemmas
pub mod Showing
pub mod Standing
pub mod Basing
