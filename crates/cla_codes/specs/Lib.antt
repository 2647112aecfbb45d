pub mod Widths
pub mod Bytes
pub mod Members
