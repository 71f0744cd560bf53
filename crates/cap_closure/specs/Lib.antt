pub mod Asking
pub mod Tested
pub mod Views
