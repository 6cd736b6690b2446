pub mod FastLaws
pub mod CountLaws
