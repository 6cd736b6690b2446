pub mod PathLaws
pub mod FrontierLaws
mod SearchLaws
pub mod LeastLaws
