pub mod Output
pub mod Outcome
pub mod Refusal
