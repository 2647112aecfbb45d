pub mod Tokens
pub mod Tree
pub mod Grammar
pub mod Machine
pub mod Faults
pub mod Reader
pub mod Laws
pub mod Canonical
