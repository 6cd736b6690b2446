pub mod Reader
pub mod Next
