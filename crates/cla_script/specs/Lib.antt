pub mod View
pub mod Takes
pub mod Reads
pub mod Parses
pub mod Clashes
