pub mod Locked
pub mod Laws
