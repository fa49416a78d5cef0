pub mod Fitting
pub mod Walks
pub mod Meeting
pub mod Listing
pub mod Spreading
pub mod Dropping
pub mod Nesting
