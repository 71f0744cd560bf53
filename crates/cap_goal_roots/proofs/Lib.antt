mod Repeats
mod Walks
mod Trees
mod Goals
mod Narrow
