mod Tasks
mod Heading
