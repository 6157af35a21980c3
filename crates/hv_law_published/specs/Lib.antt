pub mod Directories
pub mod Laws
pub mod State
pub mod Worked
