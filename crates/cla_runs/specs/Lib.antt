pub mod RunLists
pub mod Rows
pub mod KeyedRuns
pub mod Walks
pub mod Members
