pub mod Cuts
pub mod Kept
pub mod Weighing
pub mod Listing
pub mod Built
