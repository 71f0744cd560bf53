pub mod Ascending
pub mod Given
pub mod Having
pub mod Owed
pub mod Written
