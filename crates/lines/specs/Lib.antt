pub mod Text
pub mod Decimal
pub mod Words
pub mod Line
pub mod Bars
