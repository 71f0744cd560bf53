pub mod Keeping
pub mod Ways
pub mod Indices
pub mod Behind
pub mod Places
pub mod Walks
pub mod Full
