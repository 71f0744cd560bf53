pub mod Cut
pub mod Texts
pub mod Whole
pub mod WholeLine
