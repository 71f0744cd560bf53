mod Ascending
mod Meeting
mod Passing
