pub mod Fronts
pub mod Grouped
pub mod SourceFrames
pub mod Turns
pub mod Weights
pub mod Joined
pub mod Places
