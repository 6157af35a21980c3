pub mod Layout
pub mod Writing
pub mod Reading
pub mod Faults
