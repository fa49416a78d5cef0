pub mod Rects
pub mod Areas
pub mod Listed
pub mod Meanings
pub mod Arising
