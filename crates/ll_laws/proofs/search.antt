-- What a search does.
pub mod AnswerRuns
pub mod AnswerSteps
pub mod Lifting
pub mod LeafTries
pub mod LeafWays
pub mod Projected
pub mod RunEnds
pub mod RunTrees
pub mod RunsFound
pub mod RunsShown
pub mod SearchLaws
pub mod SettleLaws
pub mod Numbers
