-- The faults of a text.
pub mod Judging
pub mod Order
pub mod TextOrder
