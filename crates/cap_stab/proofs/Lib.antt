mod Named
mod Kept
mod Settled
mod Headed
