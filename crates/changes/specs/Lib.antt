pub mod View
pub mod Change
