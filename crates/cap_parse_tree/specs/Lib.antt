pub mod Tree
pub mod Tokens
pub mod Spelling
pub mod Nesting
pub mod Canonical
pub mod Views
