pub mod Answers
pub mod Sums
pub mod Lines
pub mod Columns
