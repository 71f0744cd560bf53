mod Tasks
mod Choices
