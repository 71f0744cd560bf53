mod Reading
mod Saying
mod Two
mod Three
mod Promises
