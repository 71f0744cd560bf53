mod Gathering
mod Putting
mod Reading
