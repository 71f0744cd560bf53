pub mod Facts
pub mod Clauses
