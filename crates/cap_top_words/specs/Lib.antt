pub mod Number
pub mod Meaning
pub mod Views
pub mod Writing
pub mod Parser
