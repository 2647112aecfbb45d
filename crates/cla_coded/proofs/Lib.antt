pub mod Outlines
pub mod CellPlaces
pub mod DenseLaws
pub mod AnyRows
pub mod Copies
