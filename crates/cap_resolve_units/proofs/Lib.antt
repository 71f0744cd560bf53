pub mod Composed
pub mod Same
mod Joined
mod Lost
mod Acting
