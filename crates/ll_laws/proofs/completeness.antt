-- What a derivation shows, a search finds.
pub mod Chosen
pub mod Grounding
pub mod Hiding
pub mod Moving
pub mod Numbering
pub mod ShownFound
pub mod ShownRun
pub mod ShownTrees
pub mod Sitting
pub mod TreesRun
