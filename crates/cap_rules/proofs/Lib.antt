pub mod Answering
mod Example
