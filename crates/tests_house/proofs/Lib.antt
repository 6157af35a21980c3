pub mod Facts
pub mod Commits
pub mod Rooms
pub mod Goings
