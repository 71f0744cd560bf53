pub mod Fractions
pub mod Elements
pub mod Algebras
pub mod Answers
pub mod Laws
