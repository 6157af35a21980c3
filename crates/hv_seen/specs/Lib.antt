pub mod Seen
pub mod Makes
pub mod Truths
