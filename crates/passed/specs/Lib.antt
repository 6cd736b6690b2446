pub mod Slices
pub mod Sevens
