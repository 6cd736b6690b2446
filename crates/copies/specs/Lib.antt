pub mod Copies
pub mod Traces
