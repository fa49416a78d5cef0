pub mod Answered
pub mod Subtracting
pub mod Written
pub mod Tasks
pub mod Progress
pub mod Files
