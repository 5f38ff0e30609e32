pub mod Tally
pub mod Demand3
pub mod Trace
pub mod Figures
