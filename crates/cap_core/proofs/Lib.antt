pub mod Decided
pub mod Needed
pub mod Walk
