pub mod SetLaws
pub mod MarkLaws
pub mod KnownLaws
pub mod AgainLaws
