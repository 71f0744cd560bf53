pub mod Heads
pub mod Places
pub mod Searchable
pub mod Searching
pub mod Starts
pub mod Views
