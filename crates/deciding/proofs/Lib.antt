pub mod AnswerLaws
pub mod NumberLaws
pub mod DecidingLaws
