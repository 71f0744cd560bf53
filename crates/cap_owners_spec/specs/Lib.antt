pub mod Traced
pub mod Track
pub mod Filling
pub mod Walks
pub mod Steps
pub mod Start
pub mod Texts
pub mod Owners
