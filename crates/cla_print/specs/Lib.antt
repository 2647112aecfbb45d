pub mod Texts
pub mod Parting
pub mod Pieces
