-- What is seen of verdicts and of trees, of the crate below.
pub use Rattle.cap_search_trees.specs.Views
