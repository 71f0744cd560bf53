mod Answering
pub mod Schedules
mod Replays
mod InOrder
pub mod Good
mod LastLines
mod Startless
pub mod Following
mod Deriving
pub mod Accepting
mod Coring
pub mod Outlines
pub mod Strays
