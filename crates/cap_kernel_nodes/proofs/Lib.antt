pub mod Leaving
pub mod Proven
pub mod Stacks
pub mod Units
