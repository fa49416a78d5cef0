pub mod Samples
pub mod Sides
pub mod Patches
pub mod Refused
pub mod Written
pub mod Examples
