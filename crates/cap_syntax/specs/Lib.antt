pub mod Spelling
pub mod Place
pub mod Layout
pub mod Refusal
pub mod Printing
