-- The values of a track as values of terms, guards and states.
pub mod Numbers
pub mod Parts
pub mod More
pub mod Changed
