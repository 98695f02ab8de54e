-- Derivations of answers, and the checker.
pub mod AnswersShown
pub mod Dealing
pub mod DealtShown
pub mod DealtWhole
pub mod DeriveLaw
pub mod FaultLaw
pub mod Leftovers
pub mod Lines
pub mod Reordered
pub mod Numberless
