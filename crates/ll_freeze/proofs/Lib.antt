pub mod CallerLemmas
pub mod Marks
pub mod Resting
mod Imaging
mod Starting
pub mod Freezing
pub mod Going
pub mod KeyLemmas
