pub mod Packed
pub mod Cells
pub mod Trails
pub mod Stored
pub mod Segments
pub mod Layered
pub mod Lending
pub mod Tables
