-- The candidates that can match.
pub mod CandidateLemmas
pub mod ClosedLemmas
pub mod Finding
pub mod KeyedLemmas
pub mod LeafLemmas
pub mod MatchLemmas
pub mod ProgramLemmas
pub mod SignLemmas
