pub mod SetLaws
pub mod BatchLaws
