pub mod Rows
pub mod Dictionaries
pub mod KeptRows
