pub mod Exact
pub mod Nests
