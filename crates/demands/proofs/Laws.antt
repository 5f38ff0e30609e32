pub mod Sound
pub mod Tally
pub mod Theorem
