pub mod Views
pub mod Finding
pub mod Adding
pub mod Asking
pub mod Wanting
pub mod Proving
