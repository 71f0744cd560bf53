mod Unrefused
mod Counted
