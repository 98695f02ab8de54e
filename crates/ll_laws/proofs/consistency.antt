-- States that are consistent stay so.
pub mod ConsistentContexts
pub mod ConsistentForms
pub mod ConsistentLeaves
pub mod ConsistentStates
pub mod ConsistentSteps
pub mod ConsistentTerms
pub mod ConsistentUnifier
