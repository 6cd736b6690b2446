mod Writing
pub mod DecimalLaws
pub mod BarLaws
pub mod RoomLaws
pub mod Printed
