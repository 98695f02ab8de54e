pub mod Counts
pub mod Notes
pub mod Texts
pub mod Log
pub mod Pieces
pub mod Memory
pub mod Real
pub mod MemoryLaws
