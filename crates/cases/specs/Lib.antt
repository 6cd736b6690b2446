pub mod Notation
pub mod Cases
