mod Heads
mod Building
mod Shapes
pub mod CallerLemmas
