pub mod Guided
pub mod Seeking
pub mod Leaves
pub mod Walks
pub mod Verdicts
pub mod Starts
pub mod Laws
