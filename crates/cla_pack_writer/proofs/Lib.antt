mod Sending
mod Sequences
mod Pieces
mod Ranges
mod Listings
mod Segments
mod CodeRuns
mod Bodies
mod Files
pub mod Rests
