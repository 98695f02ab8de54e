pub mod Pieces
pub mod Stack
pub mod Parts
pub mod ReadAgain
pub mod Answers
