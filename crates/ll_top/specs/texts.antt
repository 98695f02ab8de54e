pub mod Faults
pub mod Judging
pub mod Outcome
pub mod CallEnds
pub mod Endings
pub mod Converting
pub mod ConvertEnds
pub mod Told
