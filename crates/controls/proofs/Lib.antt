mod RestLaws
mod CaseLaws
mod CaseTables
mod TwiceCase
mod CrossingCase
mod TwoCase
pub mod Examples
