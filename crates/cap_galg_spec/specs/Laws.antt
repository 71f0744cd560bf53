pub mod Fractions
pub mod Composition
pub mod Algebras
