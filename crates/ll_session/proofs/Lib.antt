pub mod Lexes
pub mod Questions
pub mod Lining
pub mod Replying
pub mod CallerLemmas
