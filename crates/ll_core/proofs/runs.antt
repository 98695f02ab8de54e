-- Whole runs of a pool.
pub mod AllClaimed
pub mod Costs
pub mod Given
pub mod Owing
pub mod Runs
pub mod LaterPools
