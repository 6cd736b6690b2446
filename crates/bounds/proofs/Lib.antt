pub mod BoundLaws
pub mod OpenLaws
pub mod HighestLaws
