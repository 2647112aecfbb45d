pub mod Growth
pub mod TakenLines
pub mod WindowLaws
pub mod GatherLaws
pub mod MemMap
pub mod NumberLaws
pub mod AheadLaws
