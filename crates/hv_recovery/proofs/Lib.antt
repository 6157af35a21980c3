pub mod Blocks
pub mod Books
pub mod Answered
pub mod Skims
