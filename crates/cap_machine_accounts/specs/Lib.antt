pub mod Parts
pub mod Assertions
pub mod Accounts
pub mod Following
pub mod Safety
