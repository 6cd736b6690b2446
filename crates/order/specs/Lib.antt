pub mod Listed
pub mod Paper
pub mod Rule
pub mod Order
pub mod Heads
pub mod Entries
