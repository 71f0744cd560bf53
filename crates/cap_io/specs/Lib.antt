pub mod Files
pub mod Outside
pub mod Memory
pub mod Reading
