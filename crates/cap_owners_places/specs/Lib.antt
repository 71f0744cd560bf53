pub mod Gathered
pub mod Places
pub mod Proven
pub mod Views
