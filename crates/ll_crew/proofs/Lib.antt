pub mod Calms
pub mod Leadings
pub mod Goings
pub mod Gathering
pub mod Endings
pub mod Claiming
pub mod SharingLemmas
pub mod Running
pub mod Arms
pub mod Finishing
mod AloneLemmas
mod Holding
