pub mod Members
pub mod Unions
pub mod Tests
pub mod Composition
