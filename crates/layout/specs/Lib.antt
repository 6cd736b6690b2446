pub mod Numbers
pub mod Each
pub mod Batches
