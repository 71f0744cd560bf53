-- What a frame's own steps lead to, along a track: its next node, at the values that the step
-- brings, and a track that is kept.
pub mod Sides
pub mod Onward
pub mod Staying
pub mod Stepping
pub mod Ordinary
pub mod Standing
pub mod Making
pub mod Created
pub mod Returned
pub mod Owing
pub mod OwnTerms
pub mod Owed
pub mod Paying
pub mod Paid
pub mod Turned
pub mod Looped
pub mod Renewed
