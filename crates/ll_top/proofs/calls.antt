-- What each form comes to.
pub mod DeepenLemmas
pub mod DistinctNames
pub mod EndLemmas
pub mod FaultLemmas
pub mod MadeRunLemmas
pub mod NothingLemmas
pub mod ProvedLemmas
pub mod RefusedLemmas
pub mod RightLemmas
pub mod RunLemmas
pub mod SessionLemmas
pub mod WaitingLemmas
