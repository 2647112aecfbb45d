pub mod Layouts
pub mod Packing
pub mod Laws
