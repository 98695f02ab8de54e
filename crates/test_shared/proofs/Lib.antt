pub mod Playing
pub mod Readied
