pub mod Parts
pub mod Proper
pub mod Kept
pub mod Sets
pub mod Passing
pub mod Lists
pub mod Portions
