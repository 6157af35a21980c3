pub mod Layers
pub mod IntegerLemmas
