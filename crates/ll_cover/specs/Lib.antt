pub mod Closing
pub mod Matching
pub mod Covering
