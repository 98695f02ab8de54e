pub mod walks
pub mod ready
pub mod events
pub mod runs
pub mod sound
pub mod CallerLemmas
