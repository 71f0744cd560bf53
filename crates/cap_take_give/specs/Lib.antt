pub mod Given
pub mod Splits
