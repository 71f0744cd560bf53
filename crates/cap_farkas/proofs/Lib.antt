pub mod Sound
pub mod Sides
pub mod Named
pub mod Sums
pub mod Columns
pub mod Behind
