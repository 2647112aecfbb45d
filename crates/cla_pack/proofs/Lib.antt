pub mod PartsBy
pub mod LayoutsBy
pub mod Rests
pub mod Packing
