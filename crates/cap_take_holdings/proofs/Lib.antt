pub mod Slotting
pub mod Places
pub mod Kept
pub mod Rowing
pub mod Merging
pub mod Names
