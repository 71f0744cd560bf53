-- Walks through trees: how one goes on once further steps of its frame are to come, and that it
-- comes to nodes of the derivation alone.
pub mod Passing
pub mod Going
pub mod Nodes
pub mod Rooted
pub mod Leading
