pub mod Locals
pub mod Kept
