pub mod Terms
pub mod States
pub mod Choices
pub mod Environments
pub mod Candidates
pub mod Roots
pub mod Fits
pub use Rattle.cap_fm_spec.specs.cap_farkas as cap_farkas
pub use Rattle.cap_prog.specs.cap_galg as cap_galg
pub use Rattle.cap_gsolve.specs as cap_gsolve
pub use Rattle.cap_fm_spec.specs.cap_lin as cap_lin
pub use Rattle.cap_prog.specs as cap_prog
pub use Rattle.cap_prog.specs.cap_syntax as cap_syntax
