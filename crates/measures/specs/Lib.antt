pub mod Ranges
pub mod Lists
pub mod Sharing
pub mod Refused
pub mod Figures
pub mod Inner
