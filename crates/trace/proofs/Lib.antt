pub mod TurnLaws
pub mod GoingLaws
pub mod EventLaws
pub mod RunLaws
