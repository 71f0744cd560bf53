pub mod Rests
pub mod Adding
pub mod Wholes
