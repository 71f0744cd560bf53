pub mod Values
pub mod Fills
pub mod Walks
pub mod Parts
pub mod Passes
pub mod Regions
