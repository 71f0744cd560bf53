pub mod Refused
pub mod Reading
pub mod Texts
pub use Rattle.cap_resolve.specs as cap_resolve
