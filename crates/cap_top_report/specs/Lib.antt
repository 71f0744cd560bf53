pub mod Texts
pub mod Report
pub mod Found
pub mod Cores
pub mod Views
pub mod Laws
