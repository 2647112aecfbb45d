pub mod Results
pub mod Banners
pub mod Sizes
pub mod Entries
pub mod Texts
