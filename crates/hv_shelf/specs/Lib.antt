pub mod Causes
pub mod Disk
pub mod Laws
pub mod Places
pub mod Plan
