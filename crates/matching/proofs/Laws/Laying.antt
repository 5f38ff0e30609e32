pub mod LayingLaws
pub mod KeyLaws
pub mod LayRunLaws
pub mod MergeLaws
pub mod DrawLaws
pub mod RunLaws
