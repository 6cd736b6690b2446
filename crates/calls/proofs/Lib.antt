pub mod WholeLaws
pub mod WrittenLaws
pub mod CallLaws
