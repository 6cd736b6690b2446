pub mod SlotReads
pub mod NullLaws
