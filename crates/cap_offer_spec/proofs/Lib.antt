pub mod Quiet
pub mod Trying
pub mod Same
pub mod Acting
pub mod Applying
