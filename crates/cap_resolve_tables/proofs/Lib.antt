pub mod Firsts
pub mod Positions
pub mod Trees
