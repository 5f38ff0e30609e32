pub mod DemandLaws
pub mod PartLaws
pub mod ListsLaws
pub mod TraceLaws
pub mod FiguresHold
