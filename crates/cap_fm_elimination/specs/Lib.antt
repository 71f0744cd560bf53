pub mod Errors
pub mod Entries
pub mod Forms
pub mod Laws
pub mod Terms
pub mod Views
pub mod Answers
pub mod Way
