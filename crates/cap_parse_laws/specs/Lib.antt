pub mod Classes
pub mod Readers
pub mod Grammar
pub mod Laws
pub mod Versions
pub mod Texts
