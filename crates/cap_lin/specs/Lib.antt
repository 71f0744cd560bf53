pub mod Linear
pub mod Steps
pub mod Exact
pub mod Values
pub mod Rows
pub mod Solves
pub mod Laws
