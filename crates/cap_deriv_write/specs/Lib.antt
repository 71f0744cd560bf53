pub mod Forms
pub mod Preorder
pub mod Bounds
pub mod Seen
pub mod Written
pub mod Spelled
