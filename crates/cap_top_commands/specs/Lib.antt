pub mod Commands
pub mod Status
pub mod Output
pub mod Report
pub mod Derivations
pub mod Deriving
pub mod SafeText
pub mod Good
pub mod Startless
pub mod Schedules
pub mod Owners
pub mod Answers
pub mod Needed
pub mod Outlines
pub mod Views
pub mod Beginning
pub use Rattle.cap_kernel_check_steps.specs as cap_kernel_check_steps
pub use Rattle.cap_top_reading.specs.cap_resolve as cap_resolve
pub use Rattle.cap_top_reading.specs as cap_top_reading
pub use Rattle.cap_top_report.specs as cap_top_report
