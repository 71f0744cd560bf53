pub mod Listed
pub mod Cells
pub mod Guards
pub mod Sitting
mod Outlined
