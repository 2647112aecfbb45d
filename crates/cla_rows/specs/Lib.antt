pub mod Counted
pub mod Grouped
pub mod Renaming
pub mod RunBounds
pub mod CodeRuns
pub mod Chains
