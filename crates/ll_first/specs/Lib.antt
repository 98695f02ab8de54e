pub mod Upto
pub mod Firsts
