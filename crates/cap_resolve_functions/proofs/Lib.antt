pub mod Rests
pub mod Trees
pub mod ItemLists
pub mod Contexts
pub mod Blocks
pub mod FunctionNames
pub mod Members
mod KnownForms
pub mod NarrowItems
mod NarrowBodies
