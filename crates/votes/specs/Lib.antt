pub mod Contents
pub mod Answer
pub mod Holder
pub mod Identical
