mod Cutting
mod Meets
