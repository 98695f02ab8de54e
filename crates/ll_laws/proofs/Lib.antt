pub mod consistency
pub mod unification
pub mod rows
pub mod search
pub mod completeness
pub mod derivations
pub mod CallerLemmas
