pub mod Each
pub mod Marked
pub mod Thens
pub mod Listed
pub mod JobRows
