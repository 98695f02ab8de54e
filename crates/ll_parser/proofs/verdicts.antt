-- What reading answers.
pub mod Answer
pub mod Verdict
pub mod Exclusive
