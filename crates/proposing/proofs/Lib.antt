pub mod TestLaws
pub mod TakeLaws
