pub mod Closing
pub mod Moves
pub mod Parts
pub mod Passes
pub mod Slots
pub mod Turns
