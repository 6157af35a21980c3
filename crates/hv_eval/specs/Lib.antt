pub mod Held
pub mod Frames
pub mod Walks
pub mod Accumulating
