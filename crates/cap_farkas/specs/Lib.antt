pub mod Farkas
pub mod System
pub mod Refutes
