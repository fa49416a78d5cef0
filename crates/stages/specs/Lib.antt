pub mod Stages
pub mod Planes
pub mod Taps
pub mod Rows
pub mod Sites
pub mod Passes
