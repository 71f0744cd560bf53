pub mod Cells
pub mod Calling
pub mod Headed
pub mod Others
