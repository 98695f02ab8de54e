-- The walk over a pool.
pub mod Walks
pub mod Once
pub mod Unique
pub mod FrontStays
