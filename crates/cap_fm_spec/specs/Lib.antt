pub mod Events
pub mod Runs
pub mod Rows
pub mod Elimination
pub mod Leaf
pub mod Solving
pub mod Sums
pub use Rattle.cap_farkas.specs as cap_farkas
pub use Rattle.cap_lin.specs as cap_lin
