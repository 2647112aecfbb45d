pub mod Shapes
pub mod Scripts
pub mod Names
pub mod Scopes
pub mod Fits
pub mod Checks
