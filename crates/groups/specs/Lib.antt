pub mod Numbers
pub mod Cursor
pub mod Reads
pub mod Told
