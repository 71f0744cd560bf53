pub mod Ascending
pub mod Laws
