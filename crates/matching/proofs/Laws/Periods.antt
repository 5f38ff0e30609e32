pub mod NoteLaws
pub mod RowCountLaws
pub mod PassingLaws
pub mod SkipLaws
