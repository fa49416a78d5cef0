pub mod Orders
pub mod Morphology
pub mod Steps
pub mod Laws
pub mod Restaging
