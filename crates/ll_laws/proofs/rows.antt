-- Worked examples, computed.
pub mod CheckerRows
pub mod CompletenessRows
pub mod DealtRows
pub mod NumberRows
pub mod Rows
