pub mod AnswerLaws
pub mod HolderLaws
pub mod IdenticalLaws
pub mod MadeLaws
