mod Members
mod Picks
mod Matches
mod Indexed
