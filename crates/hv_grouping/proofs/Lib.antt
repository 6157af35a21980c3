pub mod Layers
pub mod Equations
