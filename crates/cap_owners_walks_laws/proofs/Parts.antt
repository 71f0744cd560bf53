-- What the part of a state comes to by a track's values: it is told of, and is just what the state's
-- cells and pieces are.
pub mod Telling
pub mod Putting
pub mod Forms
pub mod Pieces
pub mod Held
pub mod Added
