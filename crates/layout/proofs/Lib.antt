pub mod Laying
pub mod NumberLaws
pub mod EachLaws
pub mod BatchLaws
pub mod PlaceLaws
pub mod AgainLaws
pub mod RangeLaws
