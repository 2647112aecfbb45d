pub mod PlainGroups
pub mod Shapes
