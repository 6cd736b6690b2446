pub mod ListLaws
pub mod MadeLaws
mod ReadyLaws
mod RuleLaws
mod BlockLaws
pub mod OrderLaws
mod JoinLaws
mod PartLaws
pub mod PaperLaws
mod LeftLaws
mod HeadLaws
mod EntryLaws
mod WriteLaws
