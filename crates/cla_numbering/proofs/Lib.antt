pub mod TableLemmas
pub mod ColumnLemmas
pub mod MapLemmas
pub mod GatherLemmas
pub mod PlaceLemmas
pub mod TogetherLemmas
