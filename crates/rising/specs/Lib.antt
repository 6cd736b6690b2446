pub mod Bars
pub mod Attempts
pub mod Committed
