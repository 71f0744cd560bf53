pub mod Parsing
pub mod Reads
pub mod Reading
pub mod Heads
pub mod Parts
pub mod Sights
