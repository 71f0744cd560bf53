mod Grouping
mod Apart
mod Cases
mod Tasks
mod Beginning
