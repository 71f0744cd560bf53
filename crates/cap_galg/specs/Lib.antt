pub mod Lists
pub mod Views
pub mod Placed
pub mod OfAlgebra
pub mod Portions
pub mod Laws
pub use Rattle.cap_galg_spec.specs as cap_galg_spec
pub use Rattle.cap_galg_spec.specs.Fractions
pub use Rattle.cap_galg_spec.specs.Elements
pub use Rattle.cap_galg_spec.specs.Algebras
