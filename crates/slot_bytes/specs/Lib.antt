pub mod Contents
pub mod Slot
