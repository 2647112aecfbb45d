pub mod Rows
pub mod RowLists
pub mod Segments
pub mod Walks
pub mod Members
