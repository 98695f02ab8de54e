-- Programs that are made have no fault.
pub mod Names
pub mod Opened
pub mod Aside
pub mod Shapes
pub mod Whole
pub mod Chains
pub mod Lists
pub mod Asking
pub mod Made
