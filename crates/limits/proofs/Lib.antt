pub mod LimitLaws
pub mod FiguresHold
