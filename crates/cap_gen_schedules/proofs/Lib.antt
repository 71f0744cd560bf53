pub mod Draws
pub mod Addresses
pub mod Alive
pub mod Turns
pub mod Schedules
pub mod Lines
pub mod Limits
