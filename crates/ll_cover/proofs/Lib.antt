pub mod Applied
pub mod Closes
pub mod Matches
pub mod Looking
pub mod Instances
pub mod Covers
pub mod CallerLemmas
