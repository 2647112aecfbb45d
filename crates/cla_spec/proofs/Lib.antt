pub mod Examples
pub mod LineLemmas
pub mod Decimals
pub mod Sums
pub mod Entries
