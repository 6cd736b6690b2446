pub mod ViewLaws
pub mod ChangeLaws
