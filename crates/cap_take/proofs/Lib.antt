mod Others
mod Ruled
