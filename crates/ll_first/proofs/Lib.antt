pub mod Uptos
pub mod Enoughs
pub mod FirstLemmas
pub mod CallerLemmas
