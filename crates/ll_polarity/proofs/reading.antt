-- What is read of a text.
pub mod Reread
pub mod Building
pub mod FewNames
pub mod Forms
pub mod Grows
pub mod Signs
pub mod Terms
pub mod Weight
