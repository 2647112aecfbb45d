pub mod Chained
pub mod Told
pub mod Steps
pub mod Shapes
pub mod Results
pub mod Ends
pub mod RowEnds
pub mod Rooms
