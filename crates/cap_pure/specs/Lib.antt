pub mod Statements
pub mod Heads
