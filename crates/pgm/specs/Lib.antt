pub mod Bytes
pub mod Classes
pub mod Grammar
pub mod Machine
pub mod Numbers
pub mod Plain
pub mod Raw
pub mod Reading
