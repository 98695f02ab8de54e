-- Names, and the variables that they stand for.
pub mod Binders
pub mod Fronts
pub mod Meanings
pub mod Named
pub mod Numbering
pub mod PartNumbers
