pub mod Units
pub mod Views
