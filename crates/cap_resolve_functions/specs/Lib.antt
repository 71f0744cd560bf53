pub mod Views
pub mod Bodies
pub mod Functions
pub mod Names
pub mod Narrow
