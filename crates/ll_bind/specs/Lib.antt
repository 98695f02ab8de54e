pub mod Heads
pub mod Built
