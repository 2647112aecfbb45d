pub mod Entries
pub mod Chains
pub mod Counts
pub mod Answers
pub mod Orders
pub mod Laws
