pub mod RefusedLaws
pub mod ReplyLaws
pub mod BarLaws
pub mod EntryLaws
pub mod WithinLaws
pub mod OnceLaws
