-- The problem that texts ask.
pub mod Asked
pub mod PartShown
pub mod Parts
pub mod QueryParts
pub mod Problems
