pub mod Starts
pub mod Texts
pub mod Tracks
pub mod Steps
pub mod Handing
pub mod Touching
mod Owned
