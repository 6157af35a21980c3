pub mod Values
pub mod Functions
pub mod Groups
pub mod Evaluation
