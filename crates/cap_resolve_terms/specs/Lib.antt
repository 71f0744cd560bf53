pub mod Views
pub mod Brackets
