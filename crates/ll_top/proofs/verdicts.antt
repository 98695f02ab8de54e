pub mod AddedNames
pub mod MoreNames
pub mod CountingLemmas
pub mod CheckLemmas
pub mod OutcomeLemmas
pub mod ProvedLemmas
