pub mod Reads
pub mod Refusal
pub mod Attempt
