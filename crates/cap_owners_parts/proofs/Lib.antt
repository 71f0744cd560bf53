pub mod Composing
pub mod Joining
pub mod Making
pub mod Maps
pub mod Putting
pub mod Reading
pub mod Shares
pub mod Texts
