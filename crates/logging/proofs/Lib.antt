pub mod LoggingLaws
pub mod ReplyOnLaws
