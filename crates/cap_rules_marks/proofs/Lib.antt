mod Passing
mod Marking
mod Acts
mod Proving
