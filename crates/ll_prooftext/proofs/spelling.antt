-- How terms and numbers are spelled.
pub mod Arguments
pub mod Chains
pub mod Close
pub mod Cuts
pub mod Extended
pub mod Found
pub mod Kept
pub mod Mentioning
pub mod Numerals
pub mod Reach
pub mod Spellings
pub mod Steps
pub mod Ways
