pub mod Sides
mod Amounts
