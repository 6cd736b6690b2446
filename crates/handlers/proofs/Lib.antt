pub mod TestLaws
pub mod DecidedLaws
pub mod CaseLaws
pub mod RefusedLaws
pub mod StoredLaws
pub mod WithinLaws
