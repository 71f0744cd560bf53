pub mod KnownNames
mod NarrowParts
