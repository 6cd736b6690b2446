pub mod Slot
