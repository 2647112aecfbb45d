pub mod Steps
pub mod Stops
pub mod FirstStops
pub mod Answers
pub mod Rooms
