pub mod Cuts
pub mod Plays
pub mod Rooms
pub mod Seen
pub mod Sessions
