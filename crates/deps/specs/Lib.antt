pub mod Sets
pub mod Batches
pub mod Equal
