pub mod Replies
pub mod Prepare
pub mod Lead
