pub mod Dirs
pub mod Listing
pub mod Taken
pub mod Laws
