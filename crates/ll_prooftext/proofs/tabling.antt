-- Tables of shared terms.
pub mod Classing
pub mod RowsInPlace
pub mod TableSteps
pub mod TableTerms
pub mod Tasks
