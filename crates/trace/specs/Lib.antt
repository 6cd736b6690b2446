pub mod Trace
pub mod Turn
pub mod Run
