pub mod Parts
pub mod Tables
pub mod Outlines
pub mod Places
pub mod Skeletons
pub mod AnyGroups
pub mod Forms
