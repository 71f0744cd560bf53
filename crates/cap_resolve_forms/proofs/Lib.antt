pub mod Leaves
pub mod Trees
pub mod Products
pub mod Steps
mod Differences
