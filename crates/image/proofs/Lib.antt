pub mod TableLaws
pub mod HeldLaws
pub mod ReadLaws
pub mod PutLaws
pub mod AgainLaws
