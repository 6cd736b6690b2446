pub mod ChangeLaws
pub mod KeepLaws
pub mod RoomLaws
