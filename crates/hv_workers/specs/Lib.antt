pub mod Standing
pub mod Entries
