pub mod Meanings
pub mod Loading
pub mod Refused
pub mod OpenCards
pub mod Writing
pub mod Files
