mod Viewing
mod Counts
mod Causes
mod Trees
mod Programs
