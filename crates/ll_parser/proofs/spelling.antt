-- Tokens and the bytes that spell them.
pub mod Lexing
pub mod NumberText
pub mod Spelled
