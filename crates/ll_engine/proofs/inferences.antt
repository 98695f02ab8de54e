-- What an inference makes of a machine.
pub mod AtomLemmas
pub mod Loading
pub mod NumberLemmas
pub mod OwnTries
pub mod Quantifying
pub mod Closing
pub mod Asking
pub mod Connecting
pub mod LeafTaking
pub mod Settling
pub mod StepLemmas
pub mod TakeLemmas
pub mod TakenLemmas
pub mod TakingLemmas
pub mod UnifyLemmas
pub mod WayLemmas
