pub mod PartSums
pub mod Slices
pub mod Extremes
pub mod Placed
pub mod Spread
pub mod Answered
