pub mod Gathered
pub mod Projections
pub mod Reorderings
pub mod Rests
pub mod Dictionaries
pub mod GroupsMade
