pub mod Reads
pub mod Views
pub mod Run
pub mod Verified
pub mod Promise
