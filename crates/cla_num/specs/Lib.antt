pub mod Bits
pub mod Cells
pub mod Counts
pub mod Fault
pub mod Places
