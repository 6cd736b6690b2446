pub mod RisenLaws
pub mod BarLaws
pub mod AttemptsLaws
pub mod TailLaws
pub mod CommittedLaws
