mod Derivations
mod Choices
mod Positive
mod Showing
