mod Stepping
mod Members
mod Regions
pub mod Tasks
mod Cases
