pub mod RunText
pub mod Advancing
pub use Rattle.cap_replay_schedules.specs as cap_replay_schedules
