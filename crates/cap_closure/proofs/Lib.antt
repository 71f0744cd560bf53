pub mod Requests
pub mod Attempts
pub mod Starts
