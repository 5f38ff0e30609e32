pub mod RangeLaws
pub mod ListLaws
pub mod LargestLaws
pub mod SharingLaws
pub mod SelectLaws
pub mod FiguresHold
pub mod LessLaws
pub mod RefusedLaws
