pub mod unambiguous
pub mod spelling
pub mod reading
pub mod writing
pub mod tabling
pub mod CallerLemmas
pub mod renaming
