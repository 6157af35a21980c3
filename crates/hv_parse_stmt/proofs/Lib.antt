pub mod Cuts
pub mod Depth
pub mod Found
pub mod Merged
pub mod Spelled
pub mod Texts
pub mod Told
pub mod Wholes
