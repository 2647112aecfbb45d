pub mod Places
pub mod Kept
pub mod Sums
pub mod Tables
