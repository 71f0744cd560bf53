pub mod Seen
pub mod Holdings
