mod FillLaws
pub mod ReadLaws
mod WaitingLaws
pub mod RanLaws
mod StepLaws
pub mod AttemptLaws
pub mod RefusedLaws
