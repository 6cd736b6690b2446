pub mod SlotLaws
pub mod ReadLaws
pub mod AgainLaws
