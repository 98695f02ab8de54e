-- How the pool finds what is ready.
pub mod Cursors
pub mod Pointing
pub mod Readying
pub mod Taking
