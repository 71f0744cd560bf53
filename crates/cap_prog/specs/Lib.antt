pub mod Program
pub mod Parts
pub mod Scopes
pub mod WellFormed
pub mod Views
pub use Rattle.cap_galg.specs as cap_galg
pub use Rattle.cap_syntax.specs as cap_syntax
