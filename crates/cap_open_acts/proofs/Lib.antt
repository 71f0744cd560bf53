mod Members
mod Marks
mod Tasks
mod Effects
