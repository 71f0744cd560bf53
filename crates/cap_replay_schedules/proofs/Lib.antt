mod PieceLemmas
mod NumberLemmas
mod ReadLemmas
pub mod Ascending
mod Written
