pub mod machine
pub mod matching
pub mod inferences
pub mod turns
