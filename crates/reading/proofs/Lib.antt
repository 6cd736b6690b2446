pub mod KeepLaws
pub mod LoopLaws
pub mod HeldLaws
pub mod StandLaws
pub mod SoundLaws
pub mod CompleteLaws
pub mod FormatLaws
