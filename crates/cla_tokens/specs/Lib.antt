pub mod Values
pub mod Words
pub mod Pieces
pub mod View
pub mod Items
pub mod Scripts
pub mod Formed
pub mod Laws
