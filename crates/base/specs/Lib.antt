pub mod Below
pub mod Refusals
pub mod Answer
pub mod Config
pub mod Status
pub mod LogStatus
pub mod Marks
