pub mod Applies
pub mod Guiding
pub mod Walking
pub mod Counting
pub mod Judging
pub mod Leaves
pub mod Lawful
