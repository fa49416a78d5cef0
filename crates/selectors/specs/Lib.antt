pub mod Bag
pub mod Calls
pub mod Entries
pub mod Median
pub mod Played
pub mod Tally
pub mod Theorems
pub mod Weights
