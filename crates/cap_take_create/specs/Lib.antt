pub mod Creating
