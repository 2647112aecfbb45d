pub mod Chosen
pub mod Found
pub mod Lines
pub mod Parser
pub mod Results
pub mod Turns
