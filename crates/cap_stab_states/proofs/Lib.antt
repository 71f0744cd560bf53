mod Repeats
mod Bounds
mod Found
mod Asked
pub mod Collecting
mod Collected
mod Systems
pub mod Claiming
