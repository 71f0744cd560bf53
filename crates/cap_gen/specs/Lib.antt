pub mod Trial
pub mod Views
