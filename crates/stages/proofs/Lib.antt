pub mod Sums
pub mod Ranks
pub mod Windows
pub mod Turns
mod Nears
pub mod Cleaning
pub mod Pictures
pub mod Lines
