pub mod Refusal
pub mod Replies
pub mod Logged
