-- What holds of each pool.
pub mod Facts
pub mod Forming
pub mod Wholes
