pub mod Answers
pub mod Cards
pub mod Lines
pub mod Rows
pub mod Scripted
pub mod Shown
pub mod Words
pub mod Workspaces
