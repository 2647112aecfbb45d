pub mod Numbers
pub mod Matrix
pub mod Lines
pub mod Files
pub mod Effects
pub mod Bytes
