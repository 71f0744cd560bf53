pub mod Pieces
pub mod Numbers
pub mod Reading
pub mod Writing
