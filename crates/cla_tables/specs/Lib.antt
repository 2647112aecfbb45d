pub mod TableFiles
pub mod Reading
pub mod Budget
pub mod Stats
pub mod Kept
pub mod KeptStats
