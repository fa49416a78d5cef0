pub mod Cleaning
pub mod Printed
pub mod Requests
