pub mod StepLaws
pub mod CursorLaws
pub mod NumberLaws
pub mod ReadLaws
pub mod ToldLaws
