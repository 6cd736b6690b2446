pub mod NumberLaws
pub mod ChoosingLaws
