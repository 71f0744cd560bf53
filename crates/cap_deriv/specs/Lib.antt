pub mod Reading
pub mod Told
pub mod Taking
pub mod Views
pub mod Standing
pub mod Telling
pub mod Whole
