pub mod Drawn
pub mod Finding
pub mod Laws
