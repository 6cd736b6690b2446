pub mod Codes
pub mod Answers
pub mod Fast
