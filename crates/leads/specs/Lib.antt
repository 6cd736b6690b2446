pub mod Depends
pub mod Frontier
pub mod Search
