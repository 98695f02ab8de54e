-- Texts put into a bank.
pub mod Calling
pub mod Clauses
pub mod Copies
pub mod FirstModules
pub mod Framing
pub mod ModuleRows
pub mod Opening
pub mod Placing
pub mod Quantified
pub mod Shown
