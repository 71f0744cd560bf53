pub mod Walking
pub mod Multiples
pub mod Blocks
pub mod Naming
pub mod Judges
pub mod Listing
