pub mod Members
pub mod Remains
mod Ahead
