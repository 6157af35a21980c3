pub mod Fronts
pub mod Laws
pub mod Parts
pub mod Bare
pub mod Passing
pub mod Ways
