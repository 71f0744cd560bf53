pub mod Applying
pub mod Blocks
pub mod Claims
pub mod Kernel
pub mod Printing
pub mod Searchable
pub mod Visiting
