pub mod Conditions
pub mod Reach
pub mod Wide
pub mod Fits
pub mod Pruned
pub mod Pushed
