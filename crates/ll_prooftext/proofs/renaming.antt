pub mod Moved
pub mod MovedTable
pub mod MovedTrees
pub mod Said
pub mod Twins
