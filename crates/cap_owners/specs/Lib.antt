pub mod Views
pub mod Tracks
pub mod Standing
pub mod Starting
pub mod Loops
pub mod Moves
pub mod Accounts
pub mod Running
