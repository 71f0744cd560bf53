pub mod Core
pub mod Deciding
