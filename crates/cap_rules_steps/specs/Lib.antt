pub mod Errors
pub mod Goals
pub mod Judging
pub mod Places
pub mod Walks
pub use Rattle.cap_rules.specs.cap_goal_spec as cap_goal_spec
pub use Rattle.cap_rules.specs as cap_rules
