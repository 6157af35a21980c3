pub mod Shows
pub mod Starts
pub mod Writes
pub mod Steps
