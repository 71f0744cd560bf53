pub mod Kin
pub mod Atoms
pub mod Placing
pub mod Lists
pub use Rattle.cap_galg_spec.specs.Laws.Fractions
pub use Rattle.cap_galg_spec.specs.Laws.Composition
pub use Rattle.cap_galg_spec.specs.Laws.Algebras
