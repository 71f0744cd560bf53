pub mod Sums
pub mod Claiming
pub mod Seeking
pub mod Heads
pub mod Turns
pub mod Views
