pub mod Made
pub mod Pieces
pub mod Merge
pub mod Compat
pub mod Meaning
