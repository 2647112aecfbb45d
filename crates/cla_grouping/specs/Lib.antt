pub mod Numbering
pub mod Tuples
pub mod Sizes
pub mod Grouping
pub mod Partitions
pub mod Laws
