mod Below
mod Wider
mod Tasks
mod Cases
pub mod Loops
pub mod Functions
pub mod Roots
mod Reaching
mod Values
mod Growing
mod Makings
mod Pieces
mod Waiting
mod Givings
mod Quiet
mod Cutting
mod AtItems
mod AtStatements
mod AtTasks
mod KeptRoots
