pub mod Exact
pub mod Handed
pub mod Lone
pub mod Nests
pub mod Reads
pub mod UpTo
