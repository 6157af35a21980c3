pub mod Reading
pub mod Writing
pub mod Gates
pub mod Appending
