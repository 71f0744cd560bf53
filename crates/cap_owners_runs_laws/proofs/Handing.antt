-- Calls, forks and loops along a track: what a frame hands over or gives up is what its walk takes,
-- and who gets it begins with just that.
pub mod Called
pub mod Forked
pub mod CallSites
pub mod CallTakes
pub mod CallSeats
pub mod CallNames
pub mod Handing
pub mod Calls
pub mod LoopHeads
pub mod Rounds
pub mod Loops
