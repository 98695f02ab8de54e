pub mod Outlets
pub mod Drained
