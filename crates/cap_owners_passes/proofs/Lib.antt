pub mod Closed
pub mod Firsts
pub mod Folds
pub mod Given
pub mod Marks
pub mod Regions
pub mod Running
pub mod Taken
