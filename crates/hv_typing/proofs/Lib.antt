pub mod Equations
pub mod Layers
