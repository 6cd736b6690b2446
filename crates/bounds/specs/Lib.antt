pub mod Bounds
pub mod Highest
pub mod Open
