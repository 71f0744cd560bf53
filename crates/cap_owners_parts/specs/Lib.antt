pub mod Codes
pub mod Composed
pub mod Lines
pub mod Views
