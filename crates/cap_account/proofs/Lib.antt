mod Soundness
mod Unsafe
mod Storing
pub mod Stocked
pub mod Tracks
pub mod Totals
pub mod Parts
pub mod Drawn
pub mod Valid
pub mod Begins
pub mod Chosen
pub mod Renewed
pub mod Changes
mod Exchanging
pub mod Successors
pub mod Following
pub mod Succeeding
pub mod Strides
pub mod Ordinary
pub mod Touching
pub mod Handing
pub mod Returning
