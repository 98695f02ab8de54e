pub mod Printing
pub mod Parts
pub mod Lines
pub mod AnswerLines
pub mod CallerLemmas
mod Signs
mod LinePieces
