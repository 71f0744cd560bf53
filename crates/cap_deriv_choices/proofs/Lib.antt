pub mod Numerals
pub mod Plain
pub mod Loops
pub mod ReadAs
pub mod Parts
pub mod Shifts
pub mod Words
