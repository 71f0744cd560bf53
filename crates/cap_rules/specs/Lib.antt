pub mod Attempts
pub mod Making
pub mod Giving
pub mod Taking
pub mod Closing
pub mod Resting
pub mod Rules
pub mod Answers
pub mod Valid
pub mod Laws
pub mod Example
pub mod Expected
pub use Rattle.cap_goal_spec.specs as cap_goal_spec
pub use Rattle.cap_goal_spec.specs.cap_gsolve as cap_gsolve
pub use Rattle.cap_goal_spec.specs.cap_prog as cap_prog
