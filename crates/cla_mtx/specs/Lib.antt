pub mod Reading
pub mod Texts
pub mod Cells
pub mod Sums
pub mod Phases
