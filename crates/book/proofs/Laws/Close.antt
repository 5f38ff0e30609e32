pub mod ClosingLaws
pub mod ClosedLaws
