pub mod Kept
pub mod Lending
pub mod Numbers
pub mod Rule
pub mod Sight
pub mod Steps
pub mod Views
