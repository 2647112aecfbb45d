pub mod Asked
pub mod Parsed
pub mod Words
