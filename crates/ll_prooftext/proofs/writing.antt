-- Texts on their way.
pub mod Places
pub mod SameText
pub mod ShortLines
pub mod Sizing
pub mod WholeText
pub mod Writing
pub mod Signs
