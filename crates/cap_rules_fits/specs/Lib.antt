pub mod Roots
pub mod Kept
