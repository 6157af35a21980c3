pub mod Faults
pub mod Without
pub mod Laws
