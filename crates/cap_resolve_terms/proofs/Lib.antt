pub mod Rests
pub mod Tests
pub mod Seconds
pub mod Numbers
pub mod Trees
