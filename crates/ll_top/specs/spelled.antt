pub mod Taking
pub mod Laws
pub mod Spoken
