pub mod Lines
pub mod Reading
pub mod Queries
pub mod Replied
