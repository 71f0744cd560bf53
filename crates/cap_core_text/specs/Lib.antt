pub mod Lines
pub mod Laws
pub use Rattle.cap_kernel_nodes.specs as cap_kernel_nodes
