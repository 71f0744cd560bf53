pub mod Kin
