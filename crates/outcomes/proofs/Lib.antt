pub mod OutcomeLaws
pub mod RefusalLaws
