pub mod Listed
pub mod ShelfLemmas
pub mod Known
pub mod Exact
mod Walks
