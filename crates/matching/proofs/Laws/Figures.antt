pub mod FiguresHold
pub mod Figure2Cleared
pub mod Figure3Cleared
pub mod WrongClearsFail
