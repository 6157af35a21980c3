pub mod Searching
pub mod Texts
pub mod Partitions
pub mod Listed
pub mod Turns
pub mod OwnChoice
