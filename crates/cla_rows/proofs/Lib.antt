pub mod CountedRows
pub mod Ranks
pub mod GroupedRows
pub mod OwnRows
pub mod Renamings
pub mod RunBounds
pub mod RunsOfCode
pub mod Chains
