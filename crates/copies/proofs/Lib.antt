pub mod Moves
pub mod OrderLaws
mod SettledLaws
pub mod ListLaws
mod AttemptMoves
pub mod EventMoves
mod AttemptClaim
mod RunLaws
pub mod Theorem
pub mod PaperLaws
pub mod BoundLaws
pub mod TraceLaws
