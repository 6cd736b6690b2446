pub mod SettledLaws
pub mod AttemptingLaws
