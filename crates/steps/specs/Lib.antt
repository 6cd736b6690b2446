pub mod Calls
pub mod Step
