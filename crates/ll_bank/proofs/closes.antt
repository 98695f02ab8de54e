pub mod Known
pub mod Filling
pub mod Stacks
pub mod Values
pub mod Parts
pub mod Steps
