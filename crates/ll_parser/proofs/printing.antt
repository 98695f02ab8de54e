-- What is printed is read again.
pub mod PrintedForms
pub mod PrintedReads
pub mod PrintedRoom
pub mod PrintedRows
pub mod PrintedSpelled
pub mod PrintedTermRoom
pub mod PrintedTerms
pub mod PrintedTree
pub mod Printable
pub mod FormulaTexts
pub mod TermTexts
pub mod ProgramTexts
pub mod Written
pub mod WrittenLexed
pub mod WrittenRead
