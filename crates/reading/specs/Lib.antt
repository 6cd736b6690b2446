pub mod Fields
pub mod Batches
pub mod Held
pub mod Events
pub mod Format
