pub mod Closing
pub mod Loading
pub mod Evaluating
pub mod CallerLemmas
