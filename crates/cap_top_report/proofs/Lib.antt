mod Numbered
pub mod Good
mod Deriving
