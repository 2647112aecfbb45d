pub mod Outgoing
pub mod Listed
pub mod Groups
