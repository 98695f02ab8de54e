pub mod CellLemmas
pub mod MarkLemmas
mod TableLemmas
pub mod PackedLemmas
mod SameLemmas
mod SegmentLemmas
mod LayerLemmas
pub mod CallerLemmas
