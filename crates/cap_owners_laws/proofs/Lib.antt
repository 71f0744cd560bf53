pub mod Meetings
mod Steps
mod Fitting
mod Runs
pub mod Starts
mod Naming
mod Examples
mod Shown
