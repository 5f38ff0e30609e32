pub mod Units
pub mod Limits
pub mod Kinds
pub mod Answers
pub mod Figures
