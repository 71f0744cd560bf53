pub mod Views
pub mod Cuts
pub mod Sums
pub mod Full
