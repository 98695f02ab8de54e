pub mod Seen
pub mod Fits
pub mod Turns
pub mod Codes
pub mod OpenPieces
pub mod Fitting
