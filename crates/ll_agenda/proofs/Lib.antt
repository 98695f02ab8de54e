pub mod Lists
pub mod CallerLemmas
