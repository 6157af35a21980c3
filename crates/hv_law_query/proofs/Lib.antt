pub mod Folds
pub mod Replaced
pub mod Rows
pub mod Weights
