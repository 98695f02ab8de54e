-- What each event keeps and does.
pub mod Claims
pub mod Publishes
pub mod Statuses
pub mod LawfulEvents
pub mod Conditions
pub mod Openings
pub mod Cuts
pub mod Copying
pub mod Pieces
