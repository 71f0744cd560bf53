-- Of each start it is told whether the precondition of main is met.
pub mod Told
