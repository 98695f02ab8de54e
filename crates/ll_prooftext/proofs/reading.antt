-- What reading comes to.
pub mod CellsRead
pub mod Faults
pub mod FaultsOver
pub mod Labels
pub mod LinesOver
pub mod LinesRead
pub mod ReadingRows
pub mod Rest
pub mod RowsRead
pub mod SoFar
pub mod SoFarOver
pub mod TakesOver
pub mod TakesRead
pub mod Whole
pub mod Calls
pub mod LaterWords
